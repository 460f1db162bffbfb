-- Pruned trees: above the level of pruning the reduced tree, and from there on what begins a value.
use Rattle.std.specs.Prelude.{◌≡◌, ◌<◌, ◌≤◌, ℕ, suc, Bool, true, false, ◌&&◌, ◌||◌, List, [], ◌∷◌, ◌++◌, length, drop, slice_index, ltb, is_some, refl}
use Rattle.std.specs.List.{list_any}
use mathlib.Core.List.{map}
use Rattle.std.proofs.Common.{arith, sym, ◌∙◌, ap, append_assoc, append-nil, drop-cons, drop_of_length-le}
use Rattle.std.proofs.lemmas.Bool.{and_from, and_parts}
use Rattle.std.proofs.lemmas.Bool.Decides.{nat_tests}
use Rattle.std.proofs.lemmas.List.{length_push}
use Rattle.sam_model.specs.Lists.{below, tuples}
use Rattle.stream_tokens.specs.Nest.{Leaf}
use Rattle.stream_model.specs.Grow.{longer, path_fibers}
use Rattle.stream_model.specs.Terms.{TermData}
use Rattle.stream_model.specs.Trees.{in_reduced, value_reduced, reduced_sizes, begins_value, in_pruned}
use Rattle.sam_model.proofs.Lists.{and-true, or-false, same-test, filter-ext, list_any-ext, list_any-map, list_any-flat_map, list_any-gives}
use Rattle.stream_model.proofs.Grown.{InTree, paths-same}
use Rattle.stream_model.proofs.Reduced.{value-begins}

is_early : (n f : ℕ) (b : Bool) → n < f → (ltb n f || b) ≡ true
is_early n f b h = let e : ltb n f ≡ true = grind (arith, nat_tests) in rw e refl

is_late : (n f : ℕ) (b : Bool) → f ≤ n → (ltb n f || b) ≡ b
is_late n f b h = let e : ltb n f ≡ false = grind (arith, nat_tests) in rw e refl

-- a prefix shorter than f isn't pruned
pub early-test : (t : TermData) (g f : ℕ) (p : List ℕ) → length p < f → in_pruned t g f p ≡ in_reduced t g p
early-test t g f p h =
    ap (λ b. in_reduced t g p && b) (is_early (length p) f (begins_value (value_reduced t g) (reduced_sizes t g) p) h) ∙ and-true (in_reduced t g p)

-- from there on what begins a value stays
pub late-test : (t : TermData) (g f : ℕ) (p : List ℕ) → f ≤ length p → in_pruned t g f p ≡ begins_value (value_reduced t g) (reduced_sizes t g) p
late-test t g f p h =
    ap (λ b. in_reduced t g p && b) (is_late (length p) f (begins_value (value_reduced t g) (reduced_sizes t g) p) h)
    ∙ same-test (in_reduced t g p && begins_value (value_reduced t g) (reduced_sizes t g) p) (begins_value (value_reduced t g) (reduced_sizes t g) p)
    (λ k. (and_parts (in_reduced t g p) (begins_value (value_reduced t g) (reduced_sizes t g) p) k).1)
    (λ k.
    and_from (in_reduced t g p) (begins_value (value_reduced t g) (reduced_sizes t g) p)
    (list_any-gives (λ rest. is_some (value_reduced t g (p ++ rest))) (in_reduced t g p) (λ rest e. value-begins t g p rest e)
    (tuples (drop (length p) (reduced_sizes t g))) k)
    k)

-- what begins a value, begins it with some next coordinate
pub begins-next : (value : List ℕ → Leaf) (sizes p : List ℕ) → length p < length sizes
    → begins_value value sizes p ≡ list_any (λ c. begins_value value sizes (p ++ c ∷ [])) (below (slice_index sizes (length p)))
begins-next value sizes p h =
    ap (λ (x : List ℕ). list_any (λ rest. is_some (value (p ++ rest))) (tuples x)) (drop-cons sizes (length p) 0 h)
    ∙ list_any-flat_map (λ rest. is_some (value (p ++ rest))) (λ c. map (λ u. c ∷ u) (tuples (drop (suc (length p)) sizes))) (below (slice_index sizes (length p)))
    ∙ list_any-ext (λ c. list_any (λ rest. is_some (value (p ++ rest))) (map (λ u. c ∷ u) (tuples (drop (suc (length p)) sizes))))
    (λ c. begins_value value sizes (p ++ c ∷ [])) one (below (slice_index sizes (length p)))
  where
    count : (c : ℕ) → suc (length p) ≡ length (p ++ c ∷ [])
    count c = omega (arith, length_push p c)

    one : (c : ℕ) → list_any (λ rest. is_some (value (p ++ rest))) (map (λ u. c ∷ u) (tuples (drop (suc (length p)) sizes)))
        ≡ begins_value value sizes (p ++ c ∷ [])
    one c =
        list_any-map (λ rest. is_some (value (p ++ rest))) (λ (u : List ℕ). c ∷ u) (tuples (drop (suc (length p)) sizes))
        ∙ list_any-ext (λ u. is_some (value (p ++ c ∷ u))) (λ u. is_some (value ((p ++ c ∷ []) ++ u)))
        (λ u. ap (λ (x : List ℕ). is_some (value x)) (sym (append_assoc p (c ∷ []) u))) (tuples (drop (suc (length p)) sizes))
        ∙ ap (λ (n : ℕ). list_any (λ u. is_some (value ((p ++ c ∷ []) ++ u))) (tuples (drop n sizes))) (count c)

-- a full list begins its own value
pub begins-full : (value : List ℕ → Leaf) (sizes p : List ℕ) → length sizes ≤ length p → begins_value value sizes p ≡ is_some (value p)
begins-full value sizes p h =
    ap (λ (x : List ℕ). list_any (λ rest. is_some (value (p ++ rest))) (tuples x)) (drop_of_length-le sizes h)
    ∙ or-false (is_some (value (p ++ []))) ∙ ap (λ (x : List ℕ). is_some (value x)) (append-nil p)

-- a tree is the same above the level of pruning
pub paths-unpruned : (t : TermData) (g f d : ℕ) → d < f
    → path_fibers (in_pruned t g f) (reduced_sizes t g) d ≡ path_fibers (in_reduced t g) (reduced_sizes t g) d
paths-unpruned t g f d h = paths-same (in_pruned t g f) (in_reduced t g) (reduced_sizes t g) (reduced_sizes t g) (early-test t g f [] (omega (arith, h))) d step
  where
    step : (n : ℕ) (p : List ℕ) → n < d → InTree (in_pruned t g f) (reduced_sizes t g) n p
        → longer (in_pruned t g f) (reduced_sizes t g) p ≡ longer (in_reduced t g) (reduced_sizes t g) p
    step n p k i =
        ap (λ (cs : List ℕ). map (λ c. p ++ c ∷ []) cs)
        (filter-ext (λ c. in_pruned t g f (p ++ c ∷ [])) (λ c. in_reduced t g (p ++ c ∷ []))
        (λ c. early-test t g f (p ++ c ∷ []) (omega (arith, length_push p c, i.count, k, h))) (below (slice_index (reduced_sizes t g) (length p))))
