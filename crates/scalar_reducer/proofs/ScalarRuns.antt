-- A new scalar reducer makes the moves of its kind.
use Rattle.std.proofs.Common.{ℕ, zero, suc, List, [], ◌∷◌, Some, None, refl, sym, subst}
use Rattle.stream_tokens.specs.declared.Token.TheVariants.{Stop}
use Rattle.stream_tokens.specs.Nest.{Leaf, Fiber}
use Rattle.block_core.specs.Move.{Move, Taking}
use Rattle.block_core.specs.SumScalar.{take_values, sumscalar_fiber, sumscalar_moves, fiber_sum}
use Rattle.block_core.specs.Arithmetic.{combined_leaf, Plus}
use Rattle.block_core.specs.Ports.{Streams}
use Rattle.block_core.specs.Kind.{SumScalarKind, Fits, reading}
use Rattle.block_core.specs.Runs.{Runs}
use Rattle.block_core.specs.Stands.{Stands}
use Rattle.block_core.proofs.Standing.{stands-start}
use Rattle.scalar_reducer.specs.declared.scalar.ScalarState.TheVariants.{Outer, Summing, Summed}
use Rattle.scalar_reducer.specs.ScalarSteps.{scalar_steps}
use Rattle.scalar_reducer.proofs.LeftSum.{added, added-sums}

added-run : (vs : List Leaf) (sum : Leaf) (rest : List Move)
    → Runs scalar_steps (Summing (added sum vs)) rest → Runs scalar_steps (Summing sum) (take_values 1 vs rest)
added-run [] sum rest h = h
added-run (Some v ∷ vs) sum rest h = (refl, added-run vs (combined_leaf Plus sum (Some v)) rest h)
added-run (None ∷ vs) None rest h = (refl, added-run vs None rest h)
added-run (None ∷ vs) (Some a) rest h = (refl, added-run vs (Some a) rest h)

values-run : (m : ℕ × List Leaf) (n : ℕ) (rest : List Move)
    → Runs scalar_steps (Summed (fiber_sum m) n) rest → Runs scalar_steps (Summing None) (take_values 1 m.1 (Taking 1 (Stop n) ∷ rest))
values-run m n rest h =
    let P : Leaf → Type 0 = λ sum. Runs scalar_steps (Summing sum) (Taking 1 (Stop n) ∷ rest) in
    added-run m.1 None (Taking 1 (Stop n) ∷ rest) (subst P (sym (added-sums m.1)) (refl, h))

fiber-run : (n : ℕ) (m : ℕ × List Leaf) (ms : List (ℕ × List Leaf)) (rest : List Move)
    → Runs scalar_steps Outer rest → Runs scalar_steps Outer (sumscalar_fiber n m ms rest)
fiber-run zero m [] rest h = (refl, values-run m 0 _ (refl, h))
fiber-run (suc k) m [] rest h = (refl, values-run m (suc k) _ (refl, (refl, (refl, h))))
fiber-run n m (m' ∷ ms) rest h = (refl, values-run m 0 _ (refl, fiber-run n m' ms rest h))

scalar-run : (fs : List (Fiber (ℕ × List Leaf))) → Runs scalar_steps Outer (sumscalar_moves fs)
scalar-run [] = (refl, (refl, (refl, refl)))
scalar-run (([], n) ∷ fs) = (refl, (refl, (refl, scalar-run fs)))
scalar-run (((m ∷ ms), n) ∷ fs) = fiber-run n m ms (sumscalar_moves fs) (scalar-run fs)

pub scalar-starts : (s : Streams) → Fits SumScalarKind s → Stands (Runs scalar_steps Outer) SumScalarKind s 0
scalar-starts s f = stands-start scalar_steps Outer SumScalarKind s f (scalar-run (reading SumScalarKind s))
