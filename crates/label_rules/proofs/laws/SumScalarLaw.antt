-- What a scalar reducer gives: each prefix of any tree has the sum of what is told beneath it. So each prefix of the loops before
-- the one that is reduced next has the sum over that loop. It is meant for where no level lies beneath that loop, but nothing
-- here rests on it.
use Rattle.std.specs.Prelude.{◌≡◌, ◌≤◌, ℕ, suc, Bool, true, List, [], ◌∷◌, ◌++◌, length, Some, refl}
use Rattle.std.specs.List.{filter}
use mathlib.Core.List.{map}
use Rattle.std.proofs.Common.{arith, sym, ◌∙◌, ap, subst, append-nil}
use Rattle.sam_model.specs.Lists.{below}
use Rattle.sam_model.specs.Denote.{Loop}
use Rattle.stream_tokens.specs.declared.Token.{Token}
use Rattle.stream_tokens.specs.Nest.{leaf, IsStream}
use Rattle.stream_tokens.specs.Flat.{flat}
use Rattle.stream_tokens.specs.Shapes.{under}
use Rattle.block_core.specs.Arithmetic.{sum_leaves}
use Rattle.block_core.specs.Kind.{SumScalarKind}
use Rattle.block_core.proofs.Given.{Gives, sumscalar-over}
use Rattle.stream_model.specs.Grow.{next, path_fibers}
use Rattle.stream_model.specs.Terms.{TermData}
use Rattle.stream_model.specs.Trees.{sum_there, in_reduced, value_reduced, reduced_sizes}
use Rattle.stream_model.specs.Labels.{last, root_shape, reduced_shape, stream_at}
use Rattle.stream_model.specs.Reduction.{Reduces}
use Rattle.stream_model.proofs.Grown.{path_fibers-suc}
use Rattle.label_rules.proofs.laws.ItemStreams.{gives-same}
use Rattle.label_rules.proofs.laws.Following.{paths-shaped}
use Rattle.label_rules.proofs.term.Loops.{size-reduced, levels-reduced}
use Rattle.label_rules.proofs.laws.Totals.{sum-combined, value-summed}
use Rattle.stream_model.specs.Tellings.{Prefixes, Telling, told, deeper}
use Rattle.stream_model.proofs.Levels.{told-deeper, told-flows, deeper-flows, told-same}
use Rattle.stream_model.specs.declared.labels.Attr.TheVariants.{Coordinate, Value, Literal}
use Rattle.label_rules.proofs.laws.KeptStreams.{coordinates-unpruned, values-unpruned, prefixes-kept}

-- A scalar reducer tells of each prefix the sum of what is told below it.
pub sum-law : (n : List ℕ → ℕ) (v : Telling) (ok own : List ℕ → Bool) (sizes : List ℕ) (d : ℕ) → ok [] ≡ true → suc d ≤ 200
    → Gives SumScalarKind (told (λ p. Some (n p)) (path_fibers ok sizes d) ∷ told v (deeper own sizes (path_fibers ok sizes d)) ∷ [])
    (told (λ p. sum_there (map (λ c. v (p ++ c ∷ [])) (next own sizes p))) (path_fibers ok sizes d) ∷ [])
sum-law n v ok own sizes d root h =
    gives-same SumScalarKind _ _ _ _ ins_are outs_are
    (sumscalar-over n (λ p. map (λ c. v (p ++ c ∷ [])) (next own sizes p)) fs (paths-shaped ok sizes d) (
      told-flows (λ p. Some (n p)) ok sizes d (omega (arith, h)),
      (subst IsStream (told-deeper v own sizes fs) (deeper-flows v ok own sizes d root h), tt),
    ))
  where
    fs : Prefixes
    fs = path_fibers ok sizes d

    ins_are : told (λ p. Some (n p)) fs ∷ flat leaf (under (λ p. map (λ c. v (p ++ c ∷ [])) (next own sizes p)) fs) ∷ []
        ≡ told (λ p. Some (n p)) fs ∷ told v (deeper own sizes fs) ∷ []
    ins_are = ap (λ (s : List Token). told (λ p. Some (n p)) fs ∷ s ∷ []) (sym (told-deeper v own sizes fs))

    outs_are : flat (λ p. leaf (sum_leaves (map (λ c. v (p ++ c ∷ [])) (next own sizes p)))) fs ∷ []
        ≡ told (λ p. sum_there (map (λ c. v (p ++ c ∷ [])) (next own sizes p))) fs ∷ []
    outs_are =
        ap (λ (s : List Token). s ∷ [])
        (told-same (λ p. sum_leaves (map (λ c. v (p ++ c ∷ [])) (next own sizes p)))
        (λ p. sum_there (map (λ c. v (p ++ c ∷ [])) (next own sizes p))) ok sizes d root
        (λ p i. sum-combined (map (λ c. v (p ++ c ∷ [])) (next own sizes p))))

-- Over a loop of a term that is reduced next, these are the values without the loop.
pub sum-reduced : (t : TermData) (before : List Loop) (s : ℕ) (after : List Loop) (g : ℕ) → Reduces t before s after g
    → (n : List ℕ → ℕ) (ok : List ℕ → Bool) → ok [] ≡ true → suc (length before) ≤ 200
    → Gives SumScalarKind
    (told (λ p. Some (n p)) (path_fibers ok (reduced_sizes t g) (length before))
    ∷ told (value_reduced t g) (deeper (in_reduced t g) (reduced_sizes t g) (path_fibers ok (reduced_sizes t g) (length before))) ∷ [])
    (told (value_reduced t (suc g)) (path_fibers ok (reduced_sizes t g) (length before)) ∷ [])
sum-reduced t before s after g r n ok root h =
    gives-same SumScalarKind _ _ _ _ refl
    (ap (λ (s : List Token). s ∷ [])
    (told-same (λ p. sum_there (map (λ c. value_reduced t g (p ++ c ∷ [])) (next (in_reduced t g) (reduced_sizes t g) p)))
    (value_reduced t (suc g)) ok (reduced_sizes t g) (length before) root
    (λ p i.
    ap
    (λ (n : ℕ). sum_there (map (λ c. value_reduced t g (p ++ c ∷ [])) (filter (λ c. in_reduced t g (p ++ c ∷ [])) (below n))))
    (size-reduced t before s after g r p i.count)
    ∙ value-summed t before s after g r p [] i.count
    ∙ ap (value_reduced t (suc g)) (append-nil p))))
    (sum-law n (value_reduced t g) ok (in_reduced t g) (reduced_sizes t g) (length before) root h)

-- ---- in reduced trees

module _ (t : TermData) (before : List Loop) (s : ℕ) (after : List Loop) (g : ℕ) (r : Reduces t before s after g) where
  -- whatever numbers stand at the prefixes of the loops before
  scalar_sums : (n : List ℕ → ℕ) (outer : List Token)
      → outer ≡ told (λ p. Some (n p)) (path_fibers (in_reduced t g) (reduced_sizes t g) (length before))
      → Gives SumScalarKind (outer ∷ stream_at (reduced_shape t g 9 (suc (length before))) Value ∷ [])
      (stream_at (reduced_shape t (suc g) 9 (length before)) Value ∷ [])
  scalar_sums n outer e =
      let few = levels-reduced t before s after g r in
      let d = length before in
      gives-same SumScalarKind _ _ _ _
      (rw (e, values-unpruned t g (suc d) (omega (arith, few)), path_fibers-suc (in_reduced t g) (reduced_sizes t g) d) refl)
      (rw (values-unpruned t (suc g) d (omega (arith, few)), prefixes-kept t before s after g d r (omega arith)) refl)
      (sum-reduced t before s after g r n (in_reduced t g) refl (omega (arith, few)))

-- On the coordinates of the loop before it, a scalar reducer gives the values of the tree without the loop.
pub sum-scalar-gives : (t : TermData) (before : List Loop) (s : ℕ) (after : List Loop) (g : ℕ) → Reduces t before s after g
    → Gives SumScalarKind
    (stream_at (reduced_shape t g 9 (length before)) Coordinate ∷ stream_at (reduced_shape t g 9 (suc (length before))) Value
    ∷ [])
    (stream_at (reduced_shape t (suc g) 9 (length before)) Value ∷ [])
sum-scalar-gives t before s after g r =
    let few = levels-reduced t before s after g r in
    scalar_sums t before s after g r last _ (coordinates-unpruned t g (length before) (omega (arith, few)))

-- Where no loop comes before it, the same on the root.
pub sum-scalar-root : (t : TermData) (s : ℕ) (after : List Loop) (g : ℕ) → Reduces t [] s after g
    → Gives SumScalarKind (stream_at root_shape (Literal 0) ∷ stream_at (reduced_shape t g 9 1) Value ∷ [])
    (stream_at (reduced_shape t (suc g) 9 0) Value ∷ [])
sum-scalar-root t s after g r = scalar_sums t [] s after g r (λ p. 0) _ refl
