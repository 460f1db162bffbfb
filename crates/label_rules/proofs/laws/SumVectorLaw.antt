-- What a vector reducer gives: where the innermost loop that isn't on the left has one level beneath it, the coordinates of
-- that level are brought together beneath each prefix of the loops before it.
use Rattle.std.specs.Prelude.{◌≡◌, ◌<◌, ℕ, suc, List, [], ◌∷◌, length, refl}
use mathlib.Core.List.{map}
use Rattle.std.proofs.Common.{arith, ◌∙◌, ap, append-nil}
use Rattle.sam_model.specs.Denote.{Loop}
use Rattle.stream_tokens.specs.Nest.{Leaf, Fiber}
use Rattle.stream_tokens.specs.Flat.{flat}
use Rattle.stream_tokens.specs.Shapes.{on_fibers, under}
use Rattle.stream_model.specs.declared.labels.Attr.TheVariants.{Coordinate, Value}
use Rattle.stream_model.specs.Grow.{path_fibers}
use Rattle.stream_model.specs.Terms.{TermData}
use Rattle.stream_model.specs.Trees.{kept_sizes, in_reduced, value_reduced, reduced_sizes}
use Rattle.stream_model.specs.Labels.{reduced_shape, stream_at}
use Rattle.stream_model.specs.Reduction.{Reduces}
use Rattle.stream_model.proofs.Streams.{stream_at-IsStream}
use Rattle.block_core.specs.Ports.{first_item, second_leaf}
use Rattle.block_core.specs.Arithmetic.{combined_leaf, Plus}
use Rattle.block_core.specs.Gather.{gather}
use Rattle.block_core.specs.SumVector.{vector_sum}
use Rattle.block_core.specs.Kind.{SumVectorKind}
use Rattle.block_core.proofs.Given.{Gives, sumvector-over}
use Rattle.label_rules.proofs.laws.Following.{paths-positive, followers, coordinates-follow, values-follow, gives-written}
use Rattle.label_rules.proofs.term.Loops.{levels-reduced}
use Rattle.label_rules.proofs.laws.KeptStreams.{coordinates-unpruned, values-unpruned}
use Rattle.label_rules.proofs.laws.SummedRows.{values-gathered, row-of-pieces, reduced-pieces}

-- ---- the streams of a level

module _ (t : TermData) (g : ℕ) where
  -- the prefixes of length d
  abbrev level : ℕ → List (Fiber (List ℕ))
  level d = path_fibers (in_reduced t g) (reduced_sizes t g) d

  -- the coordinates that follow a prefix, with their values
  abbrev rows : List ℕ → List (ℕ × Leaf)
  rows p = followers (in_reduced t g) (reduced_sizes t g) (value_reduced t g) p

  coordinates : (d : ℕ) → suc d < 9 → stream_at (reduced_shape t g 9 (suc d)) Coordinate ≡ flat first_item (under rows (level d))
  coordinates d few =
      coordinates-unpruned t g (suc d) few ∙ coordinates-follow (in_reduced t g) (reduced_sizes t g) d (value_reduced t g)

  values : (d : ℕ) → suc d < 9 → stream_at (reduced_shape t g 9 (suc d)) Value ≡ flat second_leaf (under rows (level d))
  values d few = values-unpruned t g (suc d) few ∙ values-follow (in_reduced t g) (reduced_sizes t g) d (value_reduced t g)

-- ---- the law

module _ (t : TermData) (before : List Loop) (s : ℕ) (after : List Loop) (g : ℕ) (r : Reduces t before s after g) where
  -- the prefixes down to the loop, and what is made of those beneath each prefix of the loops before it
  abbrev pieces : List (Fiber (List ℕ))
  pieces = level t g (suc (length before))

  abbrev sums : List (Fiber (ℕ × Leaf))
  sums = on_fibers (λ xs. vector_sum (map (rows t g) xs)) pieces

  sums_are : sums ≡ under (rows t (suc g)) (level t (suc g) (length before))
  sums_are =
      reduced-pieces t before s after g r vector_sum refl (rows t g) (rows t (suc g))
      (λ p h.
      ap (gather (combined_leaf Plus)) (row-of-pieces t before s after g r (rows t g) p h)
      ∙ values-gathered t before s after g r p [] h
      ∙ ap (rows t (suc g)) (append-nil p))

  -- A vector reducer gives the coordinates and the values of the tree without the loop.
  pub sum-vector-gives : length (kept_sizes after) ≡ 1
      → Gives SumVectorKind
      (stream_at (reduced_shape t g 9 (suc (suc (length before)))) Coordinate
      ∷ stream_at (reduced_shape t g 9 (suc (suc (length before)))) Value ∷ [])
      (stream_at (reduced_shape t (suc g) 9 (suc (length before))) Coordinate
      ∷ stream_at (reduced_shape t (suc g) 9 (suc (length before))) Value ∷ [])
  sum-vector-gives one =
      gives-written SumVectorKind _ _ (flat first_item (under (rows t g) pieces) ∷ flat second_leaf (under (rows t g) pieces)
      ∷ [])
      (flat first_item sums ∷ flat second_leaf sums ∷ [])
      (rw (coordinates t g (suc d) deep, values t g (suc d) deep) refl)
      (rw (sums_are, coordinates t (suc g) d (omega (arith, deep)), values t (suc g) d (omega (arith, deep))) refl) (
        stream_at-IsStream (reduced_shape t g 9 (suc (suc d))) Coordinate (omega (arith, deep)),
        (stream_at-IsStream (reduced_shape t g 9 (suc (suc d))) Value (omega (arith, deep)), tt),
      )
      (sumvector-over (rows t g) pieces (paths-positive (in_reduced t g) (reduced_sizes t g) d))
    where
      d : ℕ
      d = length before

      deep : suc (suc d) < 9
      deep = omega (arith, one, levels-reduced t before s after g r)
