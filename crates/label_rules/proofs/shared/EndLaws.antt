-- The last steps of fused terms: sums below the shared levels, the values of all terms together, and what is dropped.
use Rattle.std.specs.Prelude.{◌≡◌, ◌<◌, ◌≤◌, ℕ, suc, Bool, true, false, cond, ◌||◌, List, [], ◌∷◌, ◌++◌, length, take, leb, slice_index, Some, None, is_some, refl}
use Rattle.std.specs.List.{list_any, filter}
use mathlib.Core.List.{map}
use Rattle.std.proofs.Common.{arith, sym, ◌∙◌, ap}
use Rattle.std.proofs.lemmas.List.{length_push}
use Rattle.std.proofs.lemmas.Bool.Decides.{nat_tests}
use Rattle.sam_model.specs.Lists.{below}
use Rattle.sam_model.specs.Denote.{Loop}
use Rattle.stream_tokens.specs.declared.Token.{Token}
use Rattle.stream_tokens.specs.Nest.{Leaf}
use Rattle.block_core.specs.Arithmetic.{combined_leaf}
use Rattle.block_core.specs.Kind.{SumScalarKind, AluKind, DropValueKind, DropFiberKind}
use Rattle.block_core.proofs.Given.{Gives}
use Rattle.stream_model.specs.declared.labels.Attr.TheVariants.{Coordinate, Value}
use Rattle.stream_model.specs.Grow.{path_fibers}
use Rattle.stream_model.specs.Terms.{TermData, Summand, summand_at}
use Rattle.stream_model.specs.Trees.{sum_there, in_whole, in_reduced, value_reduced, reduced_sizes, value_term, free_count, kept_loops, pruned_from}
use Rattle.stream_model.specs.Joins.{join_upto, signed, negated}
use Rattle.stream_model.specs.Reduction.{Reduces}
use Rattle.sam_model.proofs.Lists.{list_any-map, filter-ext}
use Rattle.stream_model.proofs.Grown.{InTree, path_fibers-suc, paths-InTree, paths-same}
use Rattle.stream_model.proofs.Reduced.{all_kept, kept-before, kept-after, reduced-front, sizes-front, value-begins}
use Rattle.stream_model.proofs.Sums.{is_some-sum}
use Rattle.label_rules.proofs.laws.ItemStreams.{gives-same}
use Rattle.label_rules.proofs.laws.JoinValues.{joining, joined-combined}
use Rattle.stream_model.specs.Tellings.{Telling, told, deeper, coordinate}
use Rattle.stream_model.specs.Fused.{below_shared, in_any, in_under_reduced}
use Rattle.stream_model.specs.Labels.{under_reduced_shape, under_joined_shape, stream_at}
use Rattle.stream_model.proofs.Levels.{deeper-same, told-stream, told-same}
use Rattle.label_rules.proofs.laws.ValueLaws.{alu-law}
use Rattle.label_rules.proofs.laws.SumScalarLaw.{sum-reduced}
use Rattle.label_rules.proofs.laws.DropLaws.{dropvalue-law, dropfiber-law, unpruned}

-- ---- sums

frame_root : (levels : ℕ) (ss : List Summand) (own : List ℕ → Bool) → in_any ss [] ≡ true → below_shared levels (in_any ss) own [] ≡ true
frame_root levels ss own founded = let e : leb 0 levels ≡ true = grind (arith, nat_tests) in rw e founded

-- below the shared levels a tree's own lists follow
pub frame-level : (levels : ℕ) (ss : List Summand) (own : List ℕ → Bool) (sizes : List ℕ) (d : ℕ) → in_any ss [] ≡ true → levels ≤ d
    → path_fibers (below_shared levels (in_any ss) own) sizes (suc d) ≡ deeper own sizes (path_fibers (below_shared levels (in_any ss) own) sizes d)
frame-level levels ss own sizes d founded h =
    path_fibers-suc (below_shared levels (in_any ss) own) sizes d
    ∙ deeper-same (InTree (below_shared levels (in_any ss) own) sizes d) (below_shared levels (in_any ss) own) own sizes sizes (path_fibers (below_shared levels (in_any ss) own) sizes d)
    (paths-InTree (below_shared levels (in_any ss) own) sizes (frame_root levels ss own founded) d) (λ p i. refl)
    (λ p c i. later (p ++ c ∷ []) (omega (arith, length_push p c, i.count, h)))
  where
    later : (q : List ℕ) → levels < length q → below_shared levels (in_any ss) own q ≡ own q
    later q l = let e : leb (length q) levels ≡ false = grind (arith, nat_tests, l) in rw e refl

-- the lists above a loop that is reduced are the same before and after
pub frame-kept : (levels : ℕ) (ss : List Summand) (founded : in_any ss [] ≡ true) (t : TermData) (before : List Loop) (s : ℕ) (after : List Loop) (g : ℕ) → Reduces t before s after g
    → path_fibers (in_under_reduced levels ss t g) (reduced_sizes t g) (length before)
    ≡ path_fibers (in_under_reduced levels ss t (suc g)) (reduced_sizes t (suc g)) (length before)
frame-kept levels ss founded t before s after g r =
    paths-same (in_under_reduced levels ss t g) (in_under_reduced levels ss t (suc g)) (reduced_sizes t g) (reduced_sizes t (suc g))
    (frame_root levels ss (in_reduced t g) founded) (length before)
    (λ e p less i.
    ap (λ (n : ℕ). map (λ c. p ++ c ∷ []) (filter (λ c. in_under_reduced levels ss t g (p ++ c ∷ [])) (below n)))
    (sizes_alike (length p) (omega (arith, i.count, less)))
    ∙ ap (λ (cs : List ℕ). map (λ c. p ++ c ∷ []) cs)
    (filter-ext (λ c. in_under_reduced levels ss t g (p ++ c ∷ [])) (λ c. in_under_reduced levels ss t (suc g) (p ++ c ∷ []))
    (λ c. alike (p ++ c ∷ []) (omega (arith, length_push p c, i.count, less))) (below (slice_index (reduced_sizes t (suc g)) (length p)))))
  where
    alike : (q : List ℕ) → length q ≤ length before → in_under_reduced levels ss t g q ≡ in_under_reduced levels ss t (suc g) q
    alike q l =
        ap (λ b. cond (leb (length q) levels) (in_any ss q) b)
        (reduced-front t g before ((s, true) ∷ after) q (kept-before t before s after g r) l
        ∙ sym (reduced-front t (suc g) before ((s, false) ∷ after) q (kept-after t before s after g r) l))

    sizes_alike : (n : ℕ) → n < length before → slice_index (reduced_sizes t g) n ≡ slice_index (reduced_sizes t (suc g)) n
    sizes_alike n l =
        sizes-front t g before ((s, true) ∷ after) n (kept-before t before s after g r) l
        ∙ sym (sizes-front t (suc g) before ((s, false) ∷ after) n (kept-after t before s after g r) l)

-- a scalar reducer at or below the shared levels; whatever numbers stand at the lists above
pub under-sum : (levels : ℕ) (ss : List Summand) (founded : in_any ss [] ≡ true) (t : TermData) (before : List Loop) (s : ℕ) (after : List Loop) (g : ℕ) → Reduces t before s after g
    → (n : List ℕ → ℕ) → levels ≤ length before → suc (length before) ≤ 200
    → Gives SumScalarKind
    (told (λ p. Some (n p)) (path_fibers (in_under_reduced levels ss t g) (reduced_sizes t g) (length before))
    ∷ stream_at (under_reduced_shape levels ss t g (suc (length before))) Value ∷ [])
    (stream_at (under_reduced_shape levels ss t (suc g) (length before)) Value ∷ [])
under-sum levels ss founded t before s after g r n h few =
    let d = length before in
    gives-same SumScalarKind _ _ _ _
    (rw (
      told-stream (value_reduced t g) (in_under_reduced levels ss t g) (reduced_sizes t g) (suc d),
      frame-level levels ss (in_reduced t g) (reduced_sizes t g) d founded h,
    ) refl)
    (rw (
      told-stream (value_reduced t (suc g)) (in_under_reduced levels ss t (suc g)) (reduced_sizes t (suc g)) d,
      frame-kept levels ss founded t before s after g r,
    ) refl)
    (sum-reduced t before s after g r n (in_under_reduced levels ss t g) (frame_root levels ss (in_reduced t g) founded) few)

-- ---- all terms together

module _ (ss : List Summand) (sizes : List ℕ) (founded : in_any ss [] ≡ true) where
  -- the terms' values are those of lists that begin with a joint one
  abbrev pub Begins : List Summand → Type 0
  Begins [] = Unit {0}
  Begins (s ∷ more) = ((p q : List ℕ) → length p ≤ length sizes → is_some (value_term s.term (p ++ q)) ≡ true → in_whole s.term p ≡ true) × Begins more

  pub signed_there : (s : Summand) (p : List ℕ) → is_some (signed s p) ≡ is_some (value_term s.term p)
  signed_there s p = by_case s.minus (value_term s.term p)
    where
      by_case : (b : Bool) (o : Leaf) → is_some (cond b (negated o) o) ≡ is_some o
      by_case true None = refl
      by_case true (Some n) = refl
      by_case false o = refl

  some_term : (more : List Summand) → Begins more → (p q : List ℕ) → length p ≤ length sizes
      → list_any (λ s. is_some (signed s (p ++ q))) more ≡ true → in_any more p ≡ true
  some_term [] b p q l k = k
  some_term (s ∷ more) b p q l k = by_case (is_some (signed s (p ++ q))) refl k (some_term more b.1 p q l)
    where
      by_case : (c : Bool) → is_some (signed s (p ++ q)) ≡ c → (c || list_any (λ s. is_some (signed s (p ++ q))) more) ≡ true
          → (list_any (λ s. is_some (signed s (p ++ q))) more ≡ true → in_any more p ≡ true)
          → (in_whole s.term p || in_any more p) ≡ true
      by_case true e m r = let i : in_whole s.term p ≡ true = b.0 p q l (sym (signed_there s (p ++ q)) ∙ e) in rw i refl
      by_case false e m r = either (in_whole s.term p) (r m)
        where
          either : (c : Bool) → in_any more p ≡ true → (c || in_any more p) ≡ true
          either true i = refl
          either false i = i

  -- the values of all terms together
  pub joint-values : (last : ℕ) → take (suc last) ss ≡ ss → Begins ss → (p q : List ℕ) → length p ≤ length sizes
      → is_some ((join_upto ss last).value (p ++ q)) ≡ true → in_any ss p ≡ true
  joint-values last all begins p q l k =
      some_term ss begins p q l
      (sym (list_any-map is_some (λ s. signed s (p ++ q)) ss)
      ∙ sym (is_some-sum (map (λ s. signed s (p ++ q)) ss))
      ∙ ap (λ (xs : List Summand). is_some (sum_there (map (λ s. signed s (p ++ q)) xs))) (sym all)
      ∙ k)

  -- ---- what is dropped

  module _ (last : ℕ) (all : take (suc last) ss ≡ ss) (begins : Begins ss) where
    abbrev value : Telling
    value = (join_upto ss last).value

    -- the lists of a level that is pruned from one on
    abbrev pub joint_stream : ℕ → ℕ → Telling → List Token
    joint_stream prune d x = told x (path_fibers (pruned_from (in_any ss) value sizes prune) sizes d)

    pub fused-dropvalue : (e : ℕ) → length sizes ≡ suc e → suc e < 9
        → Gives DropValueKind (told coordinate (path_fibers (in_any ss) sizes (suc e)) ∷ stream_at (under_joined_shape sizes ss last 9 (suc e)) Value ∷ [])
        (stream_at (under_joined_shape sizes ss last (suc e) (suc e)) Coordinate ∷ stream_at (under_joined_shape sizes ss last (suc e) (suc e)) Value ∷ [])
    fused-dropvalue e size few =
        gives-same DropValueKind _ _ _ _
        (rw (
          told-stream value (pruned_from (in_any ss) value sizes 9) sizes (suc e),
          unpruned (in_any ss) value sizes founded (joint-values last all begins) 9 (suc e) few,
        ) refl)
        (rw (
          told-stream coordinate (pruned_from (in_any ss) value sizes (suc e)) sizes (suc e),
          told-stream value (pruned_from (in_any ss) value sizes (suc e)) sizes (suc e),
        ) refl)
        (dropvalue-law (in_any ss) value sizes founded (joint-values last all begins) e size (omega (arith, few)))

    pub fused-dropfiber : (e : ℕ) → suc e < length sizes → suc (suc e) ≤ 200
        → Gives DropFiberKind
        (told coordinate (path_fibers (in_any ss) sizes (suc e)) ∷ stream_at (under_joined_shape sizes ss last (suc (suc e)) (suc (suc e))) Coordinate ∷ [])
        (stream_at (under_joined_shape sizes ss last (suc e) (suc e)) Coordinate ∷ stream_at (under_joined_shape sizes ss last (suc e) (suc (suc e))) Coordinate ∷ [])
    fused-dropfiber e above few =
        gives-same DropFiberKind _ _ _ _
        (rw (told-stream coordinate (pruned_from (in_any ss) value sizes (suc (suc e))) sizes (suc (suc e))) refl)
        (rw (
          told-stream coordinate (pruned_from (in_any ss) value sizes (suc e)) sizes (suc e),
          told-stream coordinate (pruned_from (in_any ss) value sizes (suc e)) sizes (suc (suc e)),
        ) refl)
        (dropfiber-law (in_any ss) value sizes founded (joint-values last all begins) e above few)

  -- ---- one term more

  -- the values of the terms before, with those of the next
  pub fused-sum : (n d : ℕ) → suc n < length ss → d ≤ 200
      → Gives (AluKind (joining (summand_at ss (suc n)).minus))
      (told (join_upto ss n).value (path_fibers (in_any ss) sizes d) ∷ told (value_term (summand_at ss (suc n)).term) (path_fibers (in_any ss) sizes d) ∷ [])
      (told (join_upto ss (suc n)).value (path_fibers (in_any ss) sizes d) ∷ [])
  fused-sum n d inside few =
      gives-same (AluKind (joining (summand_at ss (suc n)).minus)) _ _ _ _ refl
      (ap (λ (s : List Token). s ∷ [])
      (told-same (λ p. combined_leaf (joining (summand_at ss (suc n)).minus) ((join_upto ss n).value p) (value_term (summand_at ss (suc n)).term p))
      (join_upto ss (suc n)).value (in_any ss) sizes d founded (λ p i. joined-combined ss (suc n) inside p)))
      (alu-law (joining (summand_at ss (suc n)).minus) (join_upto ss n).value (value_term (summand_at ss (suc n)).term) (in_any ss) sizes d few)

-- where the result's loops come first, a term's values begin with its lists
pub begins-first : (t : TermData) (front rest : List Loop) → kept_loops (free_count t.loops) t.loops ≡ all_kept front ++ rest
    → (p q : List ℕ) → length p ≤ length front → is_some (value_term t (p ++ q)) ≡ true → in_whole t p ≡ true
begins-first t front rest e p q l k =
    sym (reduced-front t (free_count t.loops) front rest p e l) ∙ value-begins t (free_count t.loops) p q k
