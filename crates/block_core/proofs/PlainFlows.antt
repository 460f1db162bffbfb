-- The moves of root, cast, drain, const, array, the writers, mul, add, sub and dropvalue flow.
use Rattle.std.specs.Prelude.{ℕ, zero, suc, List, [], ◌∷◌, Some, None, refl}
use Rattle.std.specs.List.{filter}
use mathlib.Core.List.{map}
use Rattle.stream_tokens.specs.declared.Token.{Token}
use Rattle.stream_tokens.specs.Nest.{Leaf, leaf, Fiber}
use Rattle.stream_tokens.specs.Flat.{fiber_tokens}
use Rattle.block_core.specs.Move.{Move, columns}
use Rattle.block_core.specs.Ports.{first_item, first_leaf, second_leaf}
use Rattle.block_core.specs.Root.{root_outputs, root_moves}
use Rattle.block_core.specs.Cast.{cast_outputs, cast_moves, drain_moves}
use Rattle.block_core.specs.Change.{change_outputs, change_moves}
use Rattle.block_core.specs.Arithmetic.{Operation}
use Rattle.block_core.specs.Alu.{combined, alu_inputs, alu_outputs, alu_leaves, alu_moves}
use Rattle.block_core.specs.DropValue.{has_value, dropvalue_inputs, dropvalue_outputs, dropvalue_leaves, dropvalue_moves}
use Rattle.block_core.specs.Flows.{Flows, NoTokens}
use Rattle.block_core.proofs.Rows.{put-across}

pub root-flows : Flows root_moves [] root_outputs
root-flows = (refl, (refl, (tt, tt)))

pub drain-flows : (s : List Token) → Flows (drain_moves s) (s ∷ []) []
drain-flows [] = (tt, tt)
drain-flows (t ∷ s) = (refl, drain-flows s)

pub change-flows : (f : ℕ → ℕ) (s : List Token) → Flows (change_moves f s) (s ∷ []) (change_outputs f s)
change-flows f [] = (tt, tt)
change-flows f (t ∷ s) = (refl, (refl, change-flows f s))

none-across : (p n : ℕ) → NoTokens (columns (λ _. []) p n)
none-across p zero = tt
none-across p (suc n) = none-across (suc p) n

pub cast-flows : (outs : ℕ) (s : List Token) → Flows (cast_moves outs s) (s ∷ []) (cast_outputs outs s)
cast-flows outs [] = (tt, none-across 0 outs)
cast-flows outs (t ∷ s) = (refl, put-across outs 0 (λ _. t) (λ _. s) (cast_moves outs s) (s ∷ []) (cast-flows outs s))

alu-leaf : (op : Operation) (ps : List (Leaf × Leaf)) (rest : List Move) (a b o : List Token) → Flows rest (a ∷ b ∷ []) (o ∷ [])
    → Flows (alu_leaves op ps rest) (fiber_tokens first_leaf ps a ∷ fiber_tokens second_leaf ps b ∷ []) (fiber_tokens leaf (map (combined op) ps) o ∷ [])
alu-leaf op [] rest a b o h = h
alu-leaf op (p ∷ ps) rest a b o h = (refl, (refl, (refl, alu-leaf op ps rest a b o h)))

pub alu-flows : (op : Operation) (j : List (Fiber (Leaf × Leaf))) → Flows (alu_moves op j) (alu_inputs j) (alu_outputs op j)
alu-flows op [] = (refl, (refl, (refl, (tt, tt))))
alu-flows op ((ps, zero) ∷ fs) = alu-leaf op ps _ _ _ _ (alu-flows op fs)
alu-flows op ((ps, suc k) ∷ fs) = alu-leaf op ps _ _ _ _ (refl, (refl, (refl, alu-flows op fs)))

dropvalue-leaf : (ps : List (ℕ × Leaf)) (rest : List Move) (a b o q : List Token) → Flows rest (a ∷ b ∷ []) (o ∷ q ∷ [])
    → Flows (dropvalue_leaves ps rest) (fiber_tokens first_item ps a ∷ fiber_tokens second_leaf ps b ∷ [])
    (fiber_tokens first_item (filter has_value ps) o ∷ fiber_tokens second_leaf (filter has_value ps) q ∷ [])
dropvalue-leaf [] rest a b o q h = h
dropvalue-leaf ((c, None) ∷ ps) rest a b o q h = (refl, (refl, dropvalue-leaf ps rest a b o q h))
dropvalue-leaf ((c, Some x) ∷ ps) rest a b o q h = (refl, (refl, (refl, (refl, dropvalue-leaf ps rest a b o q h))))

pub dropvalue-flows : (j : List (Fiber (ℕ × Leaf))) → Flows (dropvalue_moves j) (dropvalue_inputs j) (dropvalue_outputs j)
dropvalue-flows [] = (refl, (refl, (refl, (refl, (tt, tt)))))
dropvalue-flows ((ps, zero) ∷ fs) = dropvalue-leaf ps _ _ _ _ _ (dropvalue-flows fs)
dropvalue-flows ((ps, suc k) ∷ fs) = dropvalue-leaf ps _ _ _ _ _ (refl, (refl, (refl, (refl, dropvalue-flows fs))))
