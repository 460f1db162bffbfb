-- dropvalue: the places of two streams of one shape whose value isn't empty.
use Rattle.std.specs.Prelude.{ℕ, zero, suc, Bool, true, false, List, [], ◌∷◌, Some, None}
use Rattle.std.specs.List.{filter}
use Rattle.stream_tokens.specs.declared.Token.TheVariants.{Item, Stop, Done}
use Rattle.stream_tokens.specs.Nest.{Leaf, leaf, Fiber}
use Rattle.stream_tokens.specs.Flat.{flat, fibers_of}
use Rattle.stream_tokens.specs.Shapes.{both, pairs, on_fibers}
use Rattle.block_core.specs.Move.{Move, Taking, Putting, take_two, put_two}
use Rattle.block_core.specs.Ports.{Streams, port, numbers_of, first_item, second_leaf}

abbrev pub is_some : Leaf → Bool
is_some None = false
is_some (Some x) = true

abbrev pub has_value : ℕ × Leaf → Bool
has_value p = is_some p.1

abbrev pub dropvalue_reading : Streams → List (Fiber (ℕ × Leaf))
dropvalue_reading ins = both pairs (numbers_of (port 0 ins)) (fibers_of (port 1 ins))

abbrev pub dropvalue_inputs : List (Fiber (ℕ × Leaf)) → Streams
dropvalue_inputs j = flat first_item j ∷ flat second_leaf j ∷ []

abbrev pub dropvalue_outputs : List (Fiber (ℕ × Leaf)) → Streams
dropvalue_outputs j = flat first_item (on_fibers (filter has_value) j) ∷ flat second_leaf (on_fibers (filter has_value) j) ∷ []

-- ---- the moves

abbrev pub put_kept : ℕ → Leaf → List Move → List Move
put_kept c None rest = rest
put_kept c (Some x) rest = Putting 0 (Item c) ∷ Putting 1 (Item x) ∷ rest

abbrev pub dropvalue_close : ℕ → List Move → List Move
dropvalue_close zero rest = rest
dropvalue_close (suc k) rest = take_two (Stop k) (put_two (Stop k) rest)

abbrev pub dropvalue_leaves : List (ℕ × Leaf) → List Move → List Move
dropvalue_leaves [] rest = rest
dropvalue_leaves (p ∷ ps) rest = Taking 0 (Item p.0) ∷ Taking 1 (leaf p.1) ∷ put_kept p.0 p.1 (dropvalue_leaves ps rest)

abbrev pub dropvalue_moves : List (Fiber (ℕ × Leaf)) → List Move
dropvalue_moves [] = take_two Done (put_two Done [])
dropvalue_moves (f ∷ fs) = dropvalue_leaves f.0 (dropvalue_close f.1 (dropvalue_moves fs))
