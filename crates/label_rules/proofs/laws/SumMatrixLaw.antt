-- What a matrix reducer gives: where the innermost loop that isn't on the left has two levels beneath it, their coordinates are
-- brought together beneath each prefix of the loops before it.
use Rattle.std.specs.Prelude.{◌≡◌, ◌<◌, ℕ, suc, false, List, [], ◌∷◌, ◌++◌, length, slice_index, refl}
use Rattle.std.specs.List.{flat_map}
use mathlib.Core.List.{map}
use Rattle.std.proofs.Common.{arith, sym, ◌∙◌, ap, append_assoc, append-nil}
use Rattle.sam_model.specs.Lists.{below}
use Rattle.sam_model.specs.Denote.{Loop}
use Rattle.stream_tokens.specs.Nest.{Leaf, Fiber}
use Rattle.stream_tokens.specs.Flat.{flat}
use Rattle.stream_tokens.specs.Shapes.{on_fibers, under}
use Rattle.stream_tokens.proofs.Algebra.{map-map, under-on_tokens}
use Rattle.stream_model.specs.declared.labels.Attr.TheVariants.{Coordinate, Value}
use Rattle.stream_model.specs.Grow.{next, path_fibers}
use Rattle.stream_model.specs.Terms.{TermData}
use Rattle.stream_model.specs.Trees.{kept_sizes, in_reduced, value_reduced, reduced_sizes}
use Rattle.stream_model.specs.Labels.{last, reduced_shape, stream_at}
use Rattle.stream_model.specs.Reduction.{Reduces}
use Rattle.sam_model.proofs.Lists.{map-ext, filter-never}
use Rattle.stream_model.proofs.Reduced.{reduced-closed}
use Rattle.stream_model.proofs.Streams.{stream_at-IsStream}
use Rattle.block_core.specs.Ports.{first_item, second_leaf, second}
use Rattle.block_core.specs.Arithmetic.{combined_leaf, Plus}
use Rattle.block_core.specs.Gather.{gather}
use Rattle.block_core.specs.SumMatrix.{MatrixRow, append_pairs, row_sum, matrix_sum}
use Rattle.block_core.specs.Kind.{SumMatrixKind}
use Rattle.block_core.proofs.Given.{Gives, summatrix-over}
use Rattle.label_rules.proofs.laws.Following.{paths-positive, followers, followers-beneath, coordinates-follow, values-follow, gives-written}
use Rattle.label_rules.proofs.term.Loops.{levels-reduced}
use Rattle.label_rules.proofs.laws.Gathered.{Adds, sum_all}
use Rattle.label_rules.proofs.laws.KeptStreams.{coordinates-unpruned, values-unpruned}
use Rattle.label_rules.proofs.laws.SummedRows.{coordinates_of_loop, over_loop, rows-gathered, values-gathered, row-of-pieces, reduced-pieces}

-- ---- lists in a row as sums

join_adds : Adds append_pairs []
join_adds = record { left = λ xs. refl; right = λ xs. append-nil xs; regroups = λ xs ys zs. append_assoc xs ys zs }

joined_all : (f : ℕ → List (ℕ × Leaf)) (cs : List ℕ) → sum_all append_pairs [] (map f cs) ≡ flat_map f cs
joined_all f [] = refl
joined_all f (c ∷ cs) = ap (append_pairs (f c)) (joined_all f cs)

-- ---- the streams of two levels

module _ (t : TermData) (g : ℕ) where
  -- the prefixes of length d
  abbrev level : ℕ → List (Fiber (List ℕ))
  level d = path_fibers (in_reduced t g) (reduced_sizes t g) d

  -- the coordinates that follow a prefix, with their values
  abbrev inner : List ℕ → List (ℕ × Leaf)
  inner p = followers (in_reduced t g) (reduced_sizes t g) (value_reduced t g) p

  -- the coordinates that follow a prefix, with those that follow them
  abbrev rows : List ℕ → List MatrixRow
  rows p = followers (in_reduced t g) (reduced_sizes t g) inner p

  -- nothing follows what isn't in the tree
  inner_absent : (u : List ℕ) → in_reduced t g u ≡ false → inner u ≡ []
  inner_absent u h =
      ap (map (λ b. (b, value_reduced t g (u ++ b ∷ []))))
      (filter-never (λ b. in_reduced t g (u ++ b ∷ [])) (λ b. reduced-closed t g u (b ∷ []) h)
      (below (slice_index (reduced_sizes t g) (length u))))

  inner_beneath : (d : ℕ) → under inner (level (suc d)) ≡ under second (under rows (level d))
  inner_beneath d =
      sym (under-on_tokens second (λ p. (last p, inner p)) (level (suc d)))
      ∙ ap (λ (fs : List (Fiber MatrixRow)). under second fs) (followers-beneath (in_reduced t g) (reduced_sizes t g) d inner)

  outer_coordinates : (d : ℕ) → suc d < 9
      → stream_at (reduced_shape t g 9 (suc d)) Coordinate ≡ flat first_item (under rows (level d))
  outer_coordinates d few = coordinates-unpruned t g (suc d) few ∙ coordinates-follow (in_reduced t g) (reduced_sizes t g) d inner

  inner_coordinates : (d : ℕ) → suc (suc d) < 9
      → stream_at (reduced_shape t g 9 (suc (suc d))) Coordinate ≡ flat first_item (under second (under rows (level d)))
  inner_coordinates d few =
      coordinates-unpruned t g (suc (suc d)) few
      ∙ coordinates-follow (in_reduced t g) (reduced_sizes t g) (suc d) (value_reduced t g)
      ∙ ap (λ (fs : List (Fiber (ℕ × Leaf))). flat first_item fs) (inner_beneath d)

  inner_values : (d : ℕ) → suc (suc d) < 9
      → stream_at (reduced_shape t g 9 (suc (suc d))) Value ≡ flat second_leaf (under second (under rows (level d)))
  inner_values d few =
      values-unpruned t g (suc (suc d)) few
      ∙ values-follow (in_reduced t g) (reduced_sizes t g) (suc d) (value_reduced t g)
      ∙ ap (λ (fs : List (Fiber (ℕ × Leaf))). flat second_leaf fs) (inner_beneath d)

-- ---- the law

module _ (t : TermData) (before : List Loop) (s : ℕ) (after : List Loop) (g : ℕ) (r : Reduces t before s after g) where
  -- what follows a after p and a coordinate of the loop, for all of these in a row
  abbrev joined : List ℕ → ℕ → List (ℕ × Leaf)
  joined p a = over_loop t before s after g r append_pairs [] (inner t g) p (a ∷ [])

  joined_sum : (p : List ℕ) (a : ℕ) → length p ≡ length before
      → gather (combined_leaf Plus) (joined p a) ≡ inner t (suc g) ((p ++ []) ++ a ∷ [])
  joined_sum p a h =
      ap (gather (combined_leaf Plus)) (joined_all (λ c. inner t g (p ++ c ∷ a ∷ [])) (coordinates_of_loop t before s after g r p))
      ∙ values-gathered t before s after g r p (a ∷ []) h
      ∙ ap (inner t (suc g)) (sym (append_assoc p [] (a ∷ [])))

  -- beneath a prefix of the loops before
  rows_summed : (p : List ℕ) → length p ≡ length before
      → map row_sum (gather append_pairs (flat_map (λ c. rows t g (p ++ c ∷ [])) (coordinates_of_loop t before s after g r p)))
      ≡ rows t (suc g) p
  rows_summed p h =
      ap (map row_sum) (rows-gathered t before s after g r append_pairs [] join_adds (inner t g) (inner_absent t g) p [] h)
      ∙ map-map row_sum (λ a. (a, joined p a)) outer
      ∙ map-ext (λ a. (a, gather (combined_leaf Plus) (joined p a))) (λ a. (a, inner t (suc g) ((p ++ []) ++ a ∷ [])))
      (λ a. ap (λ (ps : List (ℕ × Leaf)). (a, ps)) (joined_sum p a h)) outer
      ∙ ap (rows t (suc g)) (append-nil p)
    where
      outer : List ℕ
      outer = next (in_reduced t (suc g)) (reduced_sizes t (suc g)) (p ++ [])

  -- the prefixes down to the loop, and what is made of those beneath each prefix of the loops before it
  abbrev pieces : List (Fiber (List ℕ))
  pieces = level t g (suc (length before))

  abbrev sums : List (Fiber MatrixRow)
  sums = on_fibers (λ xs. matrix_sum (map (rows t g) xs)) pieces

  sums_are : sums ≡ under (rows t (suc g)) (level t (suc g) (length before))
  sums_are =
      reduced-pieces t before s after g r matrix_sum refl (rows t g) (rows t (suc g))
      (λ p h.
      ap (λ (ms : List MatrixRow). map row_sum (gather append_pairs ms)) (row-of-pieces t before s after g r (rows t g) p h)
      ∙ rows_summed p h)

  -- A matrix reducer gives the coordinates and the values of the tree without the loop.
  pub sum-matrix-gives : length (kept_sizes after) ≡ 2
      → Gives SumMatrixKind
      (stream_at (reduced_shape t g 9 (suc (suc (length before)))) Coordinate
      ∷ stream_at (reduced_shape t g 9 (suc (suc (suc (length before))))) Coordinate
      ∷ stream_at (reduced_shape t g 9 (suc (suc (suc (length before))))) Value ∷ [])
      (stream_at (reduced_shape t (suc g) 9 (suc (length before))) Coordinate
      ∷ stream_at (reduced_shape t (suc g) 9 (suc (suc (length before)))) Coordinate
      ∷ stream_at (reduced_shape t (suc g) 9 (suc (suc (length before)))) Value ∷ [])
  sum-matrix-gives two =
      gives-written SumMatrixKind _ _
      (flat first_item (under (rows t g) pieces) ∷ flat first_item (under second (under (rows t g) pieces))
      ∷ flat second_leaf (under second (under (rows t g) pieces)) ∷ [])
      (flat first_item sums ∷ flat first_item (under second sums) ∷ flat second_leaf (under second sums) ∷ [])
      (rw (outer_coordinates t g (suc d) shallow, inner_coordinates t g (suc d) deep, inner_values t g (suc d) deep) refl)
      (rw (
        sums_are,
        outer_coordinates t (suc g) d (omega (arith, deep)),
        inner_coordinates t (suc g) d shallow,
        inner_values t (suc g) d shallow,
      )
      refl) (
        stream_at-IsStream (reduced_shape t g 9 (suc (suc d))) Coordinate (omega (arith, deep)),
        (
          stream_at-IsStream (reduced_shape t g 9 (suc (suc (suc d)))) Coordinate (omega (arith, deep)),
          (stream_at-IsStream (reduced_shape t g 9 (suc (suc (suc d)))) Value (omega (arith, deep)), tt),
        ),
      )
      (summatrix-over (rows t g) pieces (paths-positive (in_reduced t g) (reduced_sizes t g) d))
    where
      d : ℕ
      d = length before

      deep : suc (suc (suc d)) < 9
      deep = omega (arith, two, levels-reduced t before s after g r)

      shallow : suc (suc d) < 9
      shallow = omega (arith, deep)
