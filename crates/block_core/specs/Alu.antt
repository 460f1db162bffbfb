-- mul, add and sub: two streams of one shape, combined token by token.
use Rattle.std.specs.Prelude.{ℕ, zero, suc, List, [], ◌∷◌}
use Rattle.stream_tokens.specs.declared.Token.TheVariants.{Stop, Done}
use Rattle.stream_tokens.specs.Nest.{Leaf, leaf, Fiber}
use Rattle.stream_tokens.specs.Flat.{flat, fibers_of}
use Rattle.stream_tokens.specs.Shapes.{both, pairs, on_tokens}
use Rattle.block_core.specs.Move.{Move, Taking, Putting, take_two}
use Rattle.block_core.specs.Ports.{Streams, port, first_leaf, second_leaf}
use Rattle.block_core.specs.Arithmetic.{Operation, combined_leaf}

abbrev pub combined : Operation → Leaf × Leaf → Leaf
combined op p = combined_leaf op p.0 p.1

abbrev pub alu_reading : Streams → List (Fiber (Leaf × Leaf))
alu_reading ins = both pairs (fibers_of (port 0 ins)) (fibers_of (port 1 ins))

abbrev pub alu_inputs : List (Fiber (Leaf × Leaf)) → Streams
alu_inputs j = flat first_leaf j ∷ flat second_leaf j ∷ []

abbrev pub alu_outputs : Operation → List (Fiber (Leaf × Leaf)) → Streams
alu_outputs op j = flat leaf (on_tokens (combined op) j) ∷ []

-- ---- the moves

abbrev pub alu_close : ℕ → List Move → List Move
alu_close zero rest = rest
alu_close (suc k) rest = take_two (Stop k) (Putting 0 (Stop k) ∷ rest)

abbrev pub alu_leaves : Operation → List (Leaf × Leaf) → List Move → List Move
alu_leaves op [] rest = rest
alu_leaves op (p ∷ ps) rest = Taking 0 (leaf p.0) ∷ Taking 1 (leaf p.1) ∷ Putting 0 (leaf (combined op p)) ∷ alu_leaves op ps rest

abbrev pub alu_moves : Operation → List (Fiber (Leaf × Leaf)) → List Move
alu_moves op [] = take_two Done (Putting 0 Done ∷ [])
alu_moves op (f ∷ fs) = alu_leaves op f.0 (alu_close f.1 (alu_moves op fs))
