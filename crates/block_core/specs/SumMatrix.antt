-- summatrix: the outer fibers between two stops above 0 become one, of their distinct coordinates; beneath each lie the
-- distinct inner coordinates of all its fibers, with the sums of their values.
use Rattle.std.specs.Prelude.{ℕ, suc, pred, List, [], ◌∷◌, ◌++◌}
use mathlib.Core.List.{map}
use Rattle.stream_tokens.specs.declared.Token.{Token}
use Rattle.stream_tokens.specs.declared.Token.TheVariants.{Item, Stop, Done}
use Rattle.stream_tokens.specs.Nest.{Leaf, leaf, Fiber}
use Rattle.stream_tokens.specs.Flat.{flat, fibers_of}
use Rattle.stream_tokens.specs.Shapes.{both, pairs, split, cut, under, on_fibers}
use Rattle.block_core.specs.Move.{Move, Taking, Putting}
use Rattle.block_core.specs.Ports.{Streams, port, numbers_of, first_item, second_leaf, second, same}
use Rattle.block_core.specs.Arithmetic.{Plus, combined_leaf}
use Rattle.block_core.specs.Gather.{gather, all_of}

-- an outer coordinate with its fiber, and a piece: the outer fibers up to a stop above 0
abbrev pub MatrixRow : Type 0
MatrixRow = ℕ × List (ℕ × Leaf)

abbrev pub MatrixPiece : Type 0
MatrixPiece = List (List MatrixRow)

abbrev pub append_pairs : List (ℕ × Leaf) → List (ℕ × Leaf) → List (ℕ × Leaf)
append_pairs xs ys = xs ++ ys

abbrev pub row_sum : MatrixRow → MatrixRow
row_sum g = (g.0, gather (combined_leaf Plus) g.1)

-- the outer coordinates of all fibers of a piece, each with the sums of all fibers of it
abbrev pub matrix_sum : MatrixPiece → List MatrixRow
matrix_sum xss = map row_sum (gather append_pairs (all_of xss))

abbrev pub summatrix_reading : Streams → List (Fiber (List MatrixRow))
summatrix_reading ins = cut (split (numbers_of (port 0 ins)) (both pairs (numbers_of (port 1 ins)) (fibers_of (port 2 ins))))

abbrev pub summatrix_inputs : List (Fiber (List MatrixRow)) → Streams
summatrix_inputs j =
    flat first_item (under same j) ∷ flat first_item (under second (under same j)) ∷ flat second_leaf (under second (under same j)) ∷ []

abbrev pub summatrix_outputs : List (Fiber (List MatrixRow)) → Streams
summatrix_outputs j =
    flat first_item (on_fibers matrix_sum j) ∷ flat first_item (under second (on_fibers matrix_sum j)) ∷ flat second_leaf (under second (on_fibers matrix_sum j)) ∷ []

-- ---- the moves

abbrev pub take_inner : List (ℕ × Leaf) → List Move → List Move
take_inner [] rest = rest
take_inner (p ∷ ps) rest = Taking 1 (Item p.0) ∷ Taking 2 (leaf p.1) ∷ take_inner ps rest

abbrev pub take_under : Token → List Move → List Move
take_under t rest = Taking 1 t ∷ Taking 2 t ∷ rest

-- an outer fiber that ends with the stop s
abbrev pub row_takes : ℕ → MatrixRow → List MatrixRow → List Move → List Move
row_takes s m [] rest = Taking 0 (Item m.0) ∷ take_inner m.1 (take_under (Stop (suc s)) (Taking 0 (Stop s) ∷ rest))
row_takes s m (m' ∷ ms) rest = Taking 0 (Item m.0) ∷ take_inner m.1 (take_under (Stop 0) (row_takes s m' ms rest))

abbrev pub outer_takes : ℕ → List MatrixRow → List Move → List Move
outer_takes s [] rest = Taking 0 (Stop s) ∷ take_under (Stop (suc s)) rest
outer_takes s (m ∷ ms) rest = row_takes s m ms rest

-- a piece whose last outer fiber ends with the stop n, the others with the stop 0
abbrev pub matrix_takes : ℕ → MatrixPiece → List Move → List Move
matrix_takes n [] rest = outer_takes n [] rest
matrix_takes n (x ∷ []) rest = outer_takes n x rest
matrix_takes n (x ∷ y ∷ xs) rest = outer_takes 0 x (matrix_takes n (y ∷ xs) rest)

abbrev pub put_inner : List (ℕ × Leaf) → List Move → List Move
put_inner [] rest = rest
put_inner (p ∷ ps) rest = Putting 1 (Item p.0) ∷ Putting 2 (leaf p.1) ∷ put_inner ps rest

abbrev pub put_under : Token → List Move → List Move
put_under t rest = Putting 1 t ∷ Putting 2 t ∷ rest

abbrev pub row_puts : MatrixRow → List MatrixRow → List Move → List Move
row_puts g [] rest = Putting 0 (Item g.0) ∷ put_inner g.1 rest
row_puts g (g' ∷ gs) rest = Putting 0 (Item g.0) ∷ put_inner g.1 (put_under (Stop 0) (row_puts g' gs rest))

-- what is kept is put, and the stop m - 1, with m beneath
abbrev pub flush_moves : ℕ → List MatrixRow → List Move → List Move
flush_moves m [] rest = Putting 0 (Stop (pred m)) ∷ put_under (Stop m) rest
flush_moves m (g ∷ gs) rest = row_puts g gs (Putting 0 (Stop (pred m)) ∷ put_under (Stop m) rest)

abbrev pub summatrix_moves : List (Fiber (List MatrixRow)) → List Move
summatrix_moves [] = Taking 0 Done ∷ take_under Done (Putting 0 Done ∷ put_under Done [])
summatrix_moves (f ∷ fs) = matrix_takes f.1 f.0 (flush_moves f.1 (matrix_sum f.0) (summatrix_moves fs))
