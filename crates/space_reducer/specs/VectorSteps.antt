-- The states of a vector reducer: what each wants, and where a taken or a put token leads.
use Rattle.std.specs.Prelude.{ℕ, zero, suc, List, [], ◌∷◌}
use Rattle.stream_tokens.specs.declared.Token.{Token}
use Rattle.stream_tokens.specs.declared.Token.TheVariants.{Item, Empty, Stop, Done}
use Rattle.stream_tokens.specs.Nest.{Leaf, leaf, leaf_of}
use Rattle.block_core.specs.declared.Wish.{Wish}
use Rattle.block_core.specs.declared.Wish.TheVariants.{Take, Put, Finished}
use Rattle.block_core.specs.Arithmetic.{combined_leaf, Plus}
use Rattle.block_core.specs.Gather.{add_at}
use Rattle.block_core.specs.Runs.{Steps}
use Rattle.space_reducer.specs.declared.vector.VectorPhase.{VectorPhase}
use Rattle.space_reducer.specs.declared.vector.VectorPhase.TheVariants.{Coordinate, Value, Stopping, Ending, PutCoordinate, PutSum, PutFirst, PutSecond, Ended}

-- how far the reducer has come, what it keeps of the piece that comes in, and what it has left to put of the last one
pub record VectorState : Type 0 where
  pub phase : VectorPhase
  pub kept : List (ℕ × Leaf)
  pub left : List (ℕ × Leaf)

abbrev pub vector_state : VectorPhase → List (ℕ × Leaf) → List (ℕ × Leaf) → VectorState
vector_state phase kept left = record { phase = phase; kept = kept; left = left }

abbrev pub vector_wants : VectorPhase → Wish
vector_wants Coordinate = Take 0
vector_wants (Value c) = Take 1
vector_wants (Stopping n) = Take 1
vector_wants Ending = Take 1
vector_wants (PutCoordinate c sum stop) = Put 0 (Item c)
vector_wants (PutSum sum stop) = Put 1 (leaf sum)
vector_wants (PutFirst t) = Put 0 t
vector_wants (PutSecond t) = Put 1 t
vector_wants Ended = Finished

abbrev pub vector_coordinate_took : Token → VectorPhase
vector_coordinate_took (Item c) = Value c
vector_coordinate_took Empty = Coordinate
vector_coordinate_took (Stop n) = Stopping n
vector_coordinate_took Done = Ending

-- the first pair is put next, or the stop behind them
abbrev pub vector_next_put : List (ℕ × Leaf) → ℕ → List (ℕ × Leaf) → VectorState
vector_next_put kept stop [] = vector_state (PutFirst (Stop stop)) kept []
vector_next_put kept stop (p ∷ ps) = vector_state (PutCoordinate p.0 p.1 stop) kept ps

-- all that is kept is to be put
abbrev pub vector_flush : VectorState → ℕ → VectorState
vector_flush s stop = vector_next_put [] stop s.kept

abbrev pub vector_stopping_took : ℕ → VectorState → VectorState
vector_stopping_took zero s = record s { phase = Coordinate }
vector_stopping_took (suc stop) s = vector_flush s stop

abbrev pub vector_took : VectorPhase → VectorState → Token → VectorState
vector_took Coordinate s t = record s { phase = vector_coordinate_took t }
vector_took (Value c) s t = vector_state Coordinate (add_at (combined_leaf Plus) c (leaf_of t) s.kept) s.left
vector_took (Stopping n) s t = vector_stopping_took n s
vector_took Ending s t = record s { phase = PutFirst Done }
vector_took (PutCoordinate c sum stop) s t = s
vector_took (PutSum sum stop) s t = s
vector_took (PutFirst u) s t = s
vector_took (PutSecond u) s t = s
vector_took Ended s t = s

abbrev pub vector_second_put : Token → VectorPhase
vector_second_put (Item x) = Coordinate
vector_second_put Empty = Coordinate
vector_second_put (Stop n) = Coordinate
vector_second_put Done = Ended

abbrev pub vector_put : VectorPhase → VectorState → VectorState
vector_put Coordinate s = s
vector_put (Value c) s = s
vector_put (Stopping n) s = s
vector_put Ending s = s
vector_put (PutCoordinate c sum stop) s = record s { phase = PutSum sum stop }
vector_put (PutSum sum stop) s = vector_next_put s.kept stop s.left
vector_put (PutFirst t) s = record s { phase = PutSecond t }
vector_put (PutSecond t) s = record s { phase = vector_second_put t }
vector_put Ended s = s

abbrev pub vector_steps : Steps VectorState
vector_steps = record {
  wants = λ s. vector_wants s.phase;
  took = λ s t. vector_took s.phase s t;
  put = λ s. vector_put s.phase s;
}
