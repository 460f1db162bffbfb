-- Trees of terms and their joins: prefixes that begin what is in the tree, and the two sides of a join.
use Rattle.std.specs.Prelude.{◌≡◌, ◌<◌, ◌≤◌, ℕ, zero, suc, ◌+◌, Bool, true, false, cond, ◌||◌, List, [], ◌∷◌, ◌++◌, length, take, slice_index, ltb, is_some, refl}
use Rattle.std.specs.List.{list_any, range_with_len}
use mathlib.Core.List.{map}
use Rattle.std.proofs.Common.{arith, sym, ◌∙◌, ap, take-suc, ◌⊎◌, inl, inr}
use Rattle.std.proofs.lemmas.Bool.{and_parts, cases_lt, or_left, or_right}
use Rattle.std.proofs.lemmas.Bool.Decides.{nat_tests}
use Rattle.std.proofs.lemmas.List.{length_push, take_all}
use Rattle.std.proofs.lemmas.List.Folds.{list_any-append}
use Rattle.sam_model.specs.Lists.{below}
use Rattle.stream_tokens.specs.Nest.{Leaf}
use Rattle.stream_tokens.specs.Shapes.{on_tokens, under}
use Rattle.stream_tokens.proofs.Algebra.{under-ext}
use Rattle.stream_model.specs.declared.labels.Side.{Side}
use Rattle.stream_model.specs.Grow.{next, longer, path_fibers}
use Rattle.stream_model.specs.declared.labels.Side.TheVariants.{Left, Right}
use Rattle.stream_model.specs.Terms.{TermData, Summand, no_summand, summand_at}
use Rattle.stream_model.specs.Trees.{free_count, in_reduced, value_reduced, reduced_sizes, begins_value, in_pruned, in_term, value_term, plus_there, sum_there}
use Rattle.stream_model.specs.Joins.{negated, signed, join_of, side_part, in_beside, join_upto}
use Rattle.sam_model.proofs.Lists.{not-true, or-false, list_any-mono, filter-ext}
use Rattle.stream_model.proofs.Grown.{InTree, tokens-suc, paths-InTree, paths-same}
use Rattle.stream_model.proofs.Sums.{plus-none, sum-append}
use Rattle.stream_model.proofs.Reduced.{reduced-begins}
use Rattle.stream_model.proofs.Pruned.{early-test, late-test, begins-next, begins-full}
use Rattle.stream_model.proofs.Flat.{ClosedUnder}

-- ---- pruned trees

pub pruned-root : (t : TermData) (g f : ℕ) → 0 < f → in_pruned t g f [] ≡ true
pruned-root t g f h = early-test t g f [] h

-- a coordinate in range at which a test holds
some_at : (test : ℕ → Bool) (a n c : ℕ) → a ≤ c → c < a + n → test c ≡ true → list_any test (range_with_len a n) ≡ true
some_at test a zero c h k e = absurd (omega (arith, h, k))
some_at test a (suc n) c h k e = by_case (cases_lt a c) (some_at test (a + 1) n c)
  where
    by_case : (a < c) ⊎ (c ≤ a) → (a + 1 ≤ c → c < a + 1 + n → test c ≡ true → list_any test (range_with_len (a + 1) n) ≡ true)
        → (test a || list_any test (range_with_len (a + 1) n)) ≡ true
    by_case (inl l) r = or_right (test a) (list_any test (range_with_len (a + 1) n)) (r (omega (arith, l)) (omega (arith, k)) e)
    by_case (inr l) r =
        let same : a ≡ c = omega (arith, h, l) in
        or_left (test a) (list_any test (range_with_len (a + 1) n)) (ap test same ∙ e)

pub begins-shorter : (value : List ℕ → Leaf) (sizes p : List ℕ) (c : ℕ) → length p < length sizes → c < slice_index sizes (length p)
    → begins_value value sizes (p ++ c ∷ []) ≡ true → begins_value value sizes p ≡ true
begins-shorter value sizes p c h k e =
    begins-next value sizes p h ∙ some_at (λ c. begins_value value sizes (p ++ c ∷ [])) 0 (slice_index sizes (length p)) c (omega arith) (omega (arith, k)) e

no_more : (sizes : List ℕ) (n : ℕ) → length sizes ≤ n → slice_index sizes n ≡ 0
no_more [] n h = refl
no_more (s ∷ sizes) zero h = absurd (omega (arith, h))
no_more (s ∷ sizes) (suc n) h = no_more sizes n (omega (arith, h))

-- what begins a prefix of a pruned tree is in the tree
pub pruned-shorter : (t : TermData) (g f : ℕ) (p : List ℕ) (c : ℕ) → c < slice_index (reduced_sizes t g) (length p)
    → in_pruned t g f (p ++ c ∷ []) ≡ true → in_pruned t g f p ≡ true
pruned-shorter t g f p c h e =
    let whole = and_parts (in_reduced t g (p ++ c ∷ [])) (ltb (length (p ++ c ∷ [])) f || begins_value (value_reduced t g) (reduced_sizes t g) (p ++ c ∷ [])) e in
    by_case (cases_lt (length p) f) (cases_lt (length p) (length (reduced_sizes t g))) (reduced-begins t g p (c ∷ []) whole.0)
  where
    by_case : (length p < f) ⊎ (f ≤ length p) → (length p < length (reduced_sizes t g)) ⊎ (length (reduced_sizes t g) ≤ length p) → in_reduced t g p ≡ true
        → in_pruned t g f p ≡ true
    by_case (inl l) m r = early-test t g f p l ∙ r
    by_case (inr l) (inl m) r =
        late-test t g f p l
        ∙ begins-shorter (value_reduced t g) (reduced_sizes t g) p c m h (sym (late-test t g f (p ++ c ∷ []) (omega (arith, length_push p c, l))) ∙ e)
    by_case (inr l) (inr m) r = absurd (omega (arith, h, no_more (reduced_sizes t g) (length p) m))

pub pruned-closed : (t : TermData) (g f : ℕ) → ClosedUnder (in_pruned t g f) (reduced_sizes t g)
pruned-closed t g f p c l h = not-true (in_pruned t g f (p ++ c ∷ [])) (λ k. sym h ∙ pruned-shorter t g f p c l k)

-- from the level of pruning on each prefix goes on
pub pruned-goes-on : (t : TermData) (g f : ℕ) (p : List ℕ) → f ≤ length p → length p < length (reduced_sizes t g) → in_pruned t g f p ≡ true
    → list_any (λ c. in_pruned t g f (p ++ c ∷ [])) (below (slice_index (reduced_sizes t g) (length p))) ≡ true
pruned-goes-on t g f p l m h =
    list_any-mono (λ c. begins_value (value_reduced t g) (reduced_sizes t g) (p ++ c ∷ [])) (λ c. in_pruned t g f (p ++ c ∷ []))
    (λ c e. late-test t g f (p ++ c ∷ []) (omega (arith, length_push p c, l)) ∙ e) (below (slice_index (reduced_sizes t g) (length p)))
    (sym (begins-next (value_reduced t g) (reduced_sizes t g) p m) ∙ sym (late-test t g f p l) ∙ h)

-- a full list is in the tree of a term where it has a value
pub term-full : (t : TermData) (p : List ℕ) → 0 < length p → length (reduced_sizes t (free_count t.loops)) ≤ length p → in_term t p ≡ is_some (value_term t p)
term-full t p h k = late-test t (free_count t.loops) 1 p (omega (arith, h)) ∙ begins-full (value_term t) (reduced_sizes t (free_count t.loops)) p k

-- ---- joins

map_both : (f : Summand → Leaf) (xs ys : List Summand) → map f (xs ++ ys) ≡ map f xs ++ map f ys
map_both f [] ys = refl
map_both f (x ∷ xs) ys = ap (λ (t : List Leaf). f x ∷ t) (map_both f xs ys)

-- a join is the union of its sides
pub joined-has : (ss : List Summand) (last : ℕ) (p : List ℕ) → last < length ss
    → (join_upto ss last).has p ≡ ((side_part ss last Left).has p || (side_part ss last Right).has p)
joined-has ss last p h =
    ap (list_any (λ s. in_term s.term p)) (take-suc ss last no_summand h)
    ∙ list_any-append (λ s. in_term s.term p) (take last ss) (summand_at ss last ∷ [])
    ∙ ap (λ b. list_any (λ s. in_term s.term p) (take last ss) || b) (or-false (in_term (summand_at ss last).term p))

-- with the sum of their values, the right one's with its sign
pub joined-value : (ss : List Summand) (last : ℕ) (p : List ℕ) → last < length ss
    → (join_upto ss last).value p
    ≡ plus_there ((side_part ss last Left).value p)
    (cond (summand_at ss last).minus (negated ((side_part ss last Right).value p)) ((side_part ss last Right).value p))
joined-value ss last p h =
    ap (λ (xs : List Summand). sum_there (map (λ s. signed s p) xs)) (take-suc ss last no_summand h)
    ∙ ap sum_there (map_both (λ s. signed s p) (take last ss) (summand_at ss last ∷ []))
    ∙ sum-append (map (λ s. signed s p) (take last ss)) (signed (summand_at ss last) p ∷ [])
    ∙ ap (plus_there (sum_there (map (λ s. signed s p) (take last ss)))) (plus-none (signed (summand_at ss last) p))

-- the left side of a join is the join before it
pub joined-left : (ss : List Summand) (last : ℕ) → side_part ss (suc last) Left ≡ join_upto ss last
joined-left ss last = refl

-- the first of them is a term alone
pub joined-first : (s : Summand) (ss : List Summand) (p : List ℕ) → ((join_upto (s ∷ ss) 0).has p ≡ in_term s.term p) × ((join_upto (s ∷ ss) 0).value p ≡ signed s p)
joined-first s ss p = (or-false (in_term s.term p), plus-none (signed s p))

-- the last of them has all terms
pub joined-all : (ss : List Summand) (last : ℕ) → suc last ≡ length ss → join_upto ss last ≡ join_of ss
joined-all ss last h = ap join_of (take_all (suc last) ss (omega (arith, h)))

-- ---- beneath a join

is_shorter : (n d : ℕ) (x y : Bool) → n < d → cond (ltb n d) x y ≡ x
is_shorter n d x y h = let e : ltb n d ≡ true = grind (arith, nat_tests) in rw e refl

is_last : (n d : ℕ) (x y : Bool) → n ≡ d → cond (ltb n d) x y ≡ y
is_last n d x y h = let e : ltb n d ≡ false = grind (arith, nat_tests) in rw e refl

beside_upper : (sizes : List ℕ) (ss : List Summand) (last : ℕ) (side : Side) (d : ℕ) → (join_upto ss last).has [] ≡ true
    → path_fibers (in_beside ss last side (suc d)) sizes d ≡ path_fibers (join_upto ss last).has sizes d
beside_upper sizes ss last side d root = paths-same (in_beside ss last side (suc d)) (join_upto ss last).has sizes sizes (here root) d step
  where
    here : (join_upto ss last).has [] ≡ true → in_beside ss last side (suc d) [] ≡ true
    here r = is_shorter 0 (suc d) ((join_upto ss last).has []) ((side_part ss last side).has []) (omega arith) ∙ r

    step : (n : ℕ) (p : List ℕ) → n < d → InTree (in_beside ss last side (suc d)) sizes n p
        → longer (in_beside ss last side (suc d)) sizes p ≡ longer (join_upto ss last).has sizes p
    step n p k i =
        ap (λ (cs : List ℕ). map (λ c. p ++ c ∷ []) cs)
        (filter-ext (λ c. in_beside ss last side (suc d) (p ++ c ∷ [])) (λ c. (join_upto ss last).has (p ++ c ∷ []))
        (λ c. is_shorter (length (p ++ c ∷ [])) (suc d) ((join_upto ss last).has (p ++ c ∷ [])) ((side_part ss last side).has (p ++ c ∷ []))
        (omega (arith, length_push p c, i.count, k)))
        (below (slice_index sizes (length p))))

-- the tokens of a side beneath the joined prefixes that are one shorter
pub beside-tokens : {B : Type 0} (sizes : List ℕ) (ss : List Summand) (last : ℕ) (side : Side) (d : ℕ) (tok : List ℕ → B) → (join_upto ss last).has [] ≡ true
    → on_tokens tok (path_fibers (in_beside ss last side (suc d)) sizes (suc d))
    ≡ under (λ p. map (λ c. tok (p ++ c ∷ [])) (next (side_part ss last side).has sizes p)) (path_fibers (join_upto ss last).has sizes d)
beside-tokens sizes ss last side d tok root =
    tokens-suc (in_beside ss last side (suc d)) sizes d tok
    ∙ under-ext (InTree (in_beside ss last side (suc d)) sizes d)
    (λ p. map (λ c. tok (p ++ c ∷ [])) (next (in_beside ss last side (suc d)) sizes p))
    (λ p. map (λ c. tok (p ++ c ∷ [])) (next (side_part ss last side).has sizes p)) one
    (path_fibers (in_beside ss last side (suc d)) sizes d)
    (paths-InTree (in_beside ss last side (suc d)) sizes
    (is_shorter 0 (suc d) ((join_upto ss last).has []) ((side_part ss last side).has []) (omega arith) ∙ root) d)
    ∙ ap (under (λ p. map (λ c. tok (p ++ c ∷ [])) (next (side_part ss last side).has sizes p))) (beside_upper sizes ss last side d root)
  where
    one : (p : List ℕ) → InTree (in_beside ss last side (suc d)) sizes d p
        → map (λ c. tok (p ++ c ∷ [])) (next (in_beside ss last side (suc d)) sizes p) ≡ map (λ c. tok (p ++ c ∷ [])) (next (side_part ss last side).has sizes p)
    one p i =
        ap (map (λ c. tok (p ++ c ∷ [])))
        (filter-ext (λ c. in_beside ss last side (suc d) (p ++ c ∷ [])) (λ c. (side_part ss last side).has (p ++ c ∷ []))
        (λ c. is_last (length (p ++ c ∷ [])) (suc d) ((join_upto ss last).has (p ++ c ∷ [])) ((side_part ss last side).has (p ++ c ∷ []))
        (omega (arith, length_push p c, i.count)))
        (below (slice_index sizes (length p))))
