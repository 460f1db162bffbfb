-- sumscalar: each token of the outer stream becomes the sum of its fiber of values.
use Rattle.std.specs.Prelude.{ℕ, zero, suc, pred, List, [], ◌∷◌}
use Rattle.stream_tokens.specs.declared.Token.TheVariants.{Item, Stop, Done}
use Rattle.stream_tokens.specs.Nest.{Leaf, leaf, Fiber}
use Rattle.stream_tokens.specs.Flat.{flat, fibers_of}
use Rattle.stream_tokens.specs.Shapes.{on_tokens, under, split}
use Rattle.block_core.specs.Move.{Move, Taking, Putting}
use Rattle.block_core.specs.Ports.{Streams, port, numbers_of, first_item, second}
use Rattle.block_core.specs.Arithmetic.{sum_leaves}

abbrev pub fiber_sum : ℕ × List Leaf → Leaf
fiber_sum m = sum_leaves m.1

abbrev pub sumscalar_reading : Streams → List (Fiber (ℕ × List Leaf))
sumscalar_reading ins = split (numbers_of (port 0 ins)) (fibers_of (port 1 ins))

abbrev pub sumscalar_inputs : List (Fiber (ℕ × List Leaf)) → Streams
sumscalar_inputs j = flat first_item j ∷ flat leaf (under second j) ∷ []

abbrev pub sumscalar_outputs : List (Fiber (ℕ × List Leaf)) → Streams
sumscalar_outputs j = flat leaf (on_tokens fiber_sum j) ∷ []

-- ---- the moves

abbrev pub take_values : ℕ → List Leaf → List Move → List Move
take_values p [] rest = rest
take_values p (v ∷ vs) rest = Taking p (leaf v) ∷ take_values p vs rest

abbrev pub sumscalar_close : ℕ → List Move → List Move
sumscalar_close zero rest = rest
sumscalar_close (suc k) rest = Taking 0 (Stop k) ∷ Putting 0 (Stop k) ∷ rest

abbrev pub sumscalar_fiber : ℕ → ℕ × List Leaf → List (ℕ × List Leaf) → List Move → List Move
sumscalar_fiber n m [] rest = Taking 0 (Item m.0) ∷ take_values 1 m.1 (Taking 1 (Stop n) ∷ Putting 0 (leaf (fiber_sum m)) ∷ sumscalar_close n rest)
sumscalar_fiber n m (m' ∷ ms) rest = Taking 0 (Item m.0) ∷ take_values 1 m.1 (Taking 1 (Stop 0) ∷ Putting 0 (leaf (fiber_sum m)) ∷ sumscalar_fiber n m' ms rest)

abbrev pub sumscalar_moves : List (Fiber (ℕ × List Leaf)) → List Move
sumscalar_moves [] = Taking 0 Done ∷ Taking 1 Done ∷ Putting 0 Done ∷ []
sumscalar_moves (([], n) ∷ fs) = Taking 0 (Stop (pred n)) ∷ Taking 1 (Stop n) ∷ Putting 0 (Stop (pred n)) ∷ sumscalar_moves fs
sumscalar_moves (((m ∷ ms), n) ∷ fs) = sumscalar_fiber n m ms (sumscalar_moves fs)
