-- sumvector: the fibers between two stops above 0 become one, of their distinct coordinates with the sums of their values.
use Rattle.std.specs.Prelude.{ℕ, pred, List, [], ◌∷◌}
use Rattle.stream_tokens.specs.declared.Token.TheVariants.{Item, Stop, Done}
use Rattle.stream_tokens.specs.Nest.{Leaf, leaf, Fiber}
use Rattle.stream_tokens.specs.Flat.{flat, fibers_of}
use Rattle.stream_tokens.specs.Shapes.{both, pairs, cut, under, on_fibers}
use Rattle.block_core.specs.Move.{Move, Taking, Putting, take_two, put_two}
use Rattle.block_core.specs.Ports.{Streams, port, numbers_of, first_item, second_leaf, same}
use Rattle.block_core.specs.Arithmetic.{Plus, combined_leaf}
use Rattle.block_core.specs.Gather.{gather, all_of}

-- A piece is the fibers up to a stop above 0: the coordinates of all its fibers, with their sums.
abbrev pub vector_sum : List (List (ℕ × Leaf)) → List (ℕ × Leaf)
vector_sum xss = gather (combined_leaf Plus) (all_of xss)

abbrev pub sumvector_reading : Streams → List (Fiber (List (ℕ × Leaf)))
sumvector_reading ins = cut (both pairs (numbers_of (port 0 ins)) (fibers_of (port 1 ins)))

abbrev pub sumvector_inputs : List (Fiber (List (ℕ × Leaf))) → Streams
sumvector_inputs j = flat first_item (under same j) ∷ flat second_leaf (under same j) ∷ []

abbrev pub sumvector_outputs : List (Fiber (List (ℕ × Leaf))) → Streams
sumvector_outputs j = flat first_item (on_fibers vector_sum j) ∷ flat second_leaf (on_fibers vector_sum j) ∷ []

-- ---- the moves

abbrev pub take_pairs : List (ℕ × Leaf) → List Move → List Move
take_pairs [] rest = rest
take_pairs (p ∷ ps) rest = Taking 0 (Item p.0) ∷ Taking 1 (leaf p.1) ∷ take_pairs ps rest

abbrev pub put_pairs : List (ℕ × Leaf) → List Move → List Move
put_pairs [] rest = rest
put_pairs (p ∷ ps) rest = Putting 0 (Item p.0) ∷ Putting 1 (leaf p.1) ∷ put_pairs ps rest

-- the fibers of a piece, with the stop 0 between neighbours and the stop n after the last
abbrev pub piece_takes : ℕ → List (List (ℕ × Leaf)) → List Move → List Move
piece_takes n [] rest = take_two (Stop n) rest
piece_takes n (x ∷ []) rest = take_pairs x (take_two (Stop n) rest)
piece_takes n (x ∷ y ∷ xs) rest = take_pairs x (take_two (Stop 0) (piece_takes n (y ∷ xs) rest))

abbrev pub sumvector_moves : List (Fiber (List (ℕ × Leaf))) → List Move
sumvector_moves [] = take_two Done (put_two Done [])
sumvector_moves (f ∷ fs) = piece_takes f.1 f.0 (put_pairs (vector_sum f.0) (put_two (Stop (pred f.1)) (sumvector_moves fs)))
