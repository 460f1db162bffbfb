-- What a filler rests on: trees that are pruned from other levels, and prefixes that go on.
use Rattle.std.specs.Prelude.{◌≡◌, ◌<◌, ◌≤◌, ℕ, suc, Bool, true, false, ◌||◌, List, [], ◌∷◌, ◌++◌, length, slice_index, refl}
use Rattle.std.specs.List.{list_any}
use Rattle.std.proofs.Common.{arith, sym, ◌∙◌, ap, subst}
use Rattle.std.proofs.lemmas.Bool.{or_left, or_right}
use Rattle.std.proofs.lemmas.List.{length_push}
use Rattle.sam_model.specs.Lists.{below}
use Rattle.stream_model.specs.Grow.{next}
use Rattle.stream_model.specs.Terms.{TermData, Summand}
use Rattle.stream_model.specs.Trees.{free_count, reduced_sizes, in_pruned, in_term}
use Rattle.stream_model.specs.Joins.{join_of}
use Rattle.sam_model.proofs.Lists.{filter-ext, list_any-mono}
use Rattle.stream_model.proofs.Pruned.{late-test}
use Rattle.stream_model.proofs.Sides.{pruned-goes-on}
use Rattle.stream_model.proofs.Results.{EachSized}

-- below the levels of pruning the same coordinates follow
pub pruned-alike : (t : TermData) (g f e : ℕ) (p : List ℕ) → f ≤ suc (length p) → e ≤ suc (length p)
    → next (in_pruned t g f) (reduced_sizes t g) p ≡ next (in_pruned t g e) (reduced_sizes t g) p
pruned-alike t g f e p h k =
    filter-ext (λ c. in_pruned t g f (p ++ c ∷ [])) (λ c. in_pruned t g e (p ++ c ∷ []))
    (λ c. late-test t g f (p ++ c ∷ []) (omega (arith, length_push p c, h)) ∙ sym (late-test t g e (p ++ c ∷ []) (omega (arith, length_push p c, k))))
    (below (slice_index (reduced_sizes t g) (length p)))

-- each prefix of a join that isn't empty or full goes on
pub join-goes-on : (sizes : List ℕ) (ss : List Summand) → EachSized sizes ss → (p : List ℕ) → 0 < length p → length p < length sizes
    → (join_of ss).has p ≡ true → list_any (λ c. (join_of ss).has (p ++ c ∷ [])) (below (slice_index sizes (length p))) ≡ true
join-goes-on sizes [] e p h k m = absurd (cc)
join-goes-on sizes (s ∷ ss) e p h k m = by_case (in_term s.term p) refl m (join-goes-on sizes ss e.1 p h k)
  where
    first : in_term s.term p ≡ true
        → list_any (λ c. in_term s.term (p ++ c ∷ []) || (join_of ss).has (p ++ c ∷ [])) (below (slice_index sizes (length p))) ≡ true
    first i =
        subst (λ (xs : List ℕ). list_any (λ c. in_term s.term (p ++ c ∷ []) || (join_of ss).has (p ++ c ∷ [])) (below (slice_index xs (length p))) ≡ true) e.0
        (list_any-mono (λ c. in_term s.term (p ++ c ∷ [])) (λ c. in_term s.term (p ++ c ∷ []) || (join_of ss).has (p ++ c ∷ []))
        (λ c x. or_left (in_term s.term (p ++ c ∷ [])) ((join_of ss).has (p ++ c ∷ [])) x)
        (below (slice_index (reduced_sizes s.term (free_count s.term.loops)) (length p)))
        (pruned-goes-on s.term (free_count s.term.loops) 1 p (omega (arith, h)) (omega (arith, k, ap (λ (xs : List ℕ). length xs) e.0)) i))

    by_case : (b : Bool) → in_term s.term p ≡ b → (b || (join_of ss).has p) ≡ true
        → ((join_of ss).has p ≡ true → list_any (λ c. (join_of ss).has (p ++ c ∷ [])) (below (slice_index sizes (length p))) ≡ true)
        → list_any (λ c. in_term s.term (p ++ c ∷ []) || (join_of ss).has (p ++ c ∷ [])) (below (slice_index sizes (length p))) ≡ true
    by_case true i m r = first i
    by_case false i m r =
        list_any-mono (λ c. (join_of ss).has (p ++ c ∷ [])) (λ c. in_term s.term (p ++ c ∷ []) || (join_of ss).has (p ++ c ∷ []))
        (λ c x. or_right (in_term s.term (p ++ c ∷ [])) ((join_of ss).has (p ++ c ∷ [])) x) (below (slice_index sizes (length p))) (r m)
