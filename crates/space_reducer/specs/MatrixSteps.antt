-- The states of a matrix reducer: what each wants, and where a taken or a put token leads.
use Rattle.std.specs.Prelude.{ℕ, zero, suc, List, [], ◌∷◌, Option, Some, None}
use Rattle.std.specs.Option.{unwrap_or}
use Rattle.std.specs.Ordering.{nat_cmp}
use Rattle.std.specs.Map.{lookup, remove_entry}
use Rattle.std.specs.BTreeMap.{insert_entry, is_at}
use Rattle.stream_tokens.specs.declared.Token.{Token}
use Rattle.stream_tokens.specs.declared.Token.TheVariants.{Item, Empty, Stop, Done}
use Rattle.stream_tokens.specs.Nest.{Leaf, leaf, leaf_of}
use Rattle.block_core.specs.declared.Wish.{Wish}
use Rattle.block_core.specs.declared.Wish.TheVariants.{Take, Put, Finished}
use Rattle.block_core.specs.Arithmetic.{combined_leaf, Plus}
use Rattle.block_core.specs.Gather.{add_at}
use Rattle.block_core.specs.SumMatrix.{MatrixRow}
use Rattle.block_core.specs.Runs.{Steps}
use Rattle.space_reducer.specs.declared.matrix.Stops.{Stops}
use Rattle.space_reducer.specs.declared.matrix.MatrixPhase.{MatrixPhase}
use Rattle.space_reducer.specs.declared.matrix.MatrixPhase.TheVariants.{Outer, Inner, Value, RowEnding, Closing, BesideInner, BesideValue, PutOuter, PutInner, PutSum, BetweenInner, BetweenSums, PutFirst, PutSecond, PutThird, Ended}

-- How far the reducer has come; the rows it keeps of the piece that comes in, with the row that comes in apart; and of
-- the last piece the rows it has left to put, with what is left of the row that it puts.
pub record MatrixState : Type 0 where
  pub phase : MatrixPhase
  pub rows : List MatrixRow
  pub row : List (ℕ × Leaf)
  pub left_rows : List MatrixRow
  pub left : List (ℕ × Leaf)

abbrev pub matrix_state : MatrixPhase → List MatrixRow → List (ℕ × Leaf) → List MatrixRow → List (ℕ × Leaf) → MatrixState
matrix_state phase rows row left_rows left = record { phase = phase; rows = rows; row = row; left_rows = left_rows; left = left }

abbrev pub matrix_wants : MatrixPhase → Wish
matrix_wants Outer = Take 0
matrix_wants (Inner a) = Take 1
matrix_wants (Value a c) = Take 2
matrix_wants (RowEnding a n) = Take 2
matrix_wants Closing = Take 0
matrix_wants (BesideInner t) = Take 1
matrix_wants (BesideValue t) = Take 2
matrix_wants (PutOuter a stops) = Put 0 (Item a)
matrix_wants (PutInner c sum stops) = Put 1 (Item c)
matrix_wants (PutSum sum stops) = Put 2 (leaf sum)
matrix_wants (BetweenInner a stops) = Put 1 (Stop 0)
matrix_wants (BetweenSums a stops) = Put 2 (Stop 0)
matrix_wants (PutFirst t u) = Put 0 t
matrix_wants (PutSecond t) = Put 1 t
matrix_wants (PutThird t) = Put 2 t
matrix_wants Ended = Finished

-- ---- what is taken

-- the row kept of an outer coordinate goes on, or an empty one begins
abbrev pub row_resumed : ℕ → MatrixState → MatrixState
row_resumed a s =
    record s { phase = Inner a; rows = remove_entry (is_at (nat_cmp a)) s.rows; row = unwrap_or (lookup (is_at (nat_cmp a)) s.rows) [] }

abbrev pub matrix_outer_took : Token → MatrixState → MatrixState
matrix_outer_took (Item a) s = row_resumed a s
matrix_outer_took Empty s = s
matrix_outer_took (Stop n) s = record s { phase = BesideInner (Stop n) }
matrix_outer_took Done s = record s { phase = BesideInner Done }

abbrev pub beneath_took : ℕ → Token → MatrixPhase
beneath_took a (Item c) = Value a c
beneath_took a Empty = Inner a
beneath_took a (Stop n) = RowEnding a n
beneath_took a Done = Inner a

abbrev pub behind_row : ℕ → MatrixPhase
behind_row zero = Outer
behind_row (suc n) = Closing

-- the row that came in is kept
abbrev pub row_kept : ℕ → MatrixState → MatrixState
row_kept a s = record s { rows = insert_entry nat_cmp s.rows a s.row; row = [] }

-- ---- what is put

abbrev pub matrix_last_put : Stops → MatrixPhase
matrix_last_put stops = PutFirst (Stop stops.outer) (Stop stops.inner)

-- the outer coordinate of the first row that is left
abbrev pub next_outer : List MatrixRow → Option ℕ
next_outer [] = None
next_outer (g ∷ gs) = Some g.0

-- that row begins
abbrev pub opened_from : List MatrixRow → MatrixState → MatrixState
opened_from [] s = record s { left_rows = [] }
opened_from (g ∷ gs) s = record s { left_rows = gs; left = g.1 }

abbrev pub row_opened : MatrixState → MatrixState
row_opened s = opened_from s.left_rows s

-- all that is kept is to be put: the first row begins, or the stops are put
abbrev pub matrix_flush_of : Stops → List MatrixRow → List (ℕ × Leaf) → List (ℕ × Leaf) → MatrixState
matrix_flush_of stops [] row left = matrix_state (matrix_last_put stops) [] row [] left
matrix_flush_of stops (g ∷ gs) row left = matrix_state (PutOuter g.0 stops) [] row gs g.1

abbrev pub matrix_flush : Stops → MatrixState → MatrixState
matrix_flush stops s = matrix_flush_of stops s.rows s.row s.left

-- a row ended: the next begins, or the stops are put
abbrev pub row_put : Stops → List MatrixRow → List MatrixRow → List (ℕ × Leaf) → MatrixState
row_put stops [] rows row = matrix_state (matrix_last_put stops) rows row [] []
row_put stops (g ∷ gs) rows row = matrix_state (BetweenInner g.0 stops) rows row gs g.1

-- the next pair of the row is put, or what comes behind it
abbrev pub pair_put : Stops → List (ℕ × Leaf) → List MatrixRow → List MatrixRow → List (ℕ × Leaf) → MatrixState
pair_put stops [] gs rows row = row_put stops gs rows row
pair_put stops (p ∷ ps) gs rows row = matrix_state (PutInner p.0 p.1 stops) rows row gs ps

abbrev pub matrix_next_put : Stops → MatrixState → MatrixState
matrix_next_put stops s = pair_put stops s.left s.left_rows s.rows s.row

-- ---- the steps

abbrev pub stop_ended : ℕ → MatrixState → MatrixState
stop_ended zero s = record s { phase = Outer }
stop_ended (suc n) s = matrix_flush (record { outer = n; inner = suc n }) s

-- an outer fiber ended, or the outer stream
abbrev pub matrix_ended : Token → MatrixState → MatrixState
matrix_ended (Item x) s = record s { phase = Outer }
matrix_ended Empty s = record s { phase = Outer }
matrix_ended (Stop n) s = stop_ended n s
matrix_ended Done s = record s { phase = PutFirst Done Done }

abbrev pub matrix_took : MatrixPhase → MatrixState → Token → MatrixState
matrix_took Outer s t = matrix_outer_took t s
matrix_took (Inner a) s t = record s { phase = beneath_took a t }
matrix_took (Value a c) s t = record s { phase = Inner a; row = add_at (combined_leaf Plus) c (leaf_of t) s.row }
matrix_took (RowEnding a n) s t = record (row_kept a s) { phase = behind_row n }
matrix_took Closing s t = matrix_ended t s
matrix_took (BesideInner held) s t = record s { phase = BesideValue held }
matrix_took (BesideValue held) s t = matrix_ended held s
matrix_took (PutOuter a stops) s t = s
matrix_took (PutInner c sum stops) s t = s
matrix_took (PutSum sum stops) s t = s
matrix_took (BetweenInner a stops) s t = s
matrix_took (BetweenSums a stops) s t = s
matrix_took (PutFirst u v) s t = s
matrix_took (PutSecond u) s t = s
matrix_took (PutThird u) s t = s
matrix_took Ended s t = s

abbrev pub third_put : Token → MatrixPhase
third_put (Item x) = Outer
third_put Empty = Outer
third_put (Stop n) = Outer
third_put Done = Ended

abbrev pub matrix_put : MatrixPhase → MatrixState → MatrixState
matrix_put Outer s = s
matrix_put (Inner a) s = s
matrix_put (Value a c) s = s
matrix_put (RowEnding a n) s = s
matrix_put Closing s = s
matrix_put (BesideInner t) s = s
matrix_put (BesideValue t) s = s
matrix_put (PutOuter a stops) s = matrix_next_put stops s
matrix_put (PutInner c sum stops) s = record s { phase = PutSum sum stops }
matrix_put (PutSum sum stops) s = matrix_next_put stops s
matrix_put (BetweenInner a stops) s = record s { phase = BetweenSums a stops }
matrix_put (BetweenSums a stops) s = record s { phase = PutOuter a stops }
matrix_put (PutFirst t u) s = record s { phase = PutSecond u }
matrix_put (PutSecond t) s = record s { phase = PutThird t }
matrix_put (PutThird t) s = record s { phase = third_put t }
matrix_put Ended s = s

abbrev pub matrix_steps : Steps MatrixState
matrix_steps = record {
  wants = λ s. matrix_wants s.phase;
  took = λ s t. matrix_took s.phase s t;
  put = λ s. matrix_put s.phase s;
}
