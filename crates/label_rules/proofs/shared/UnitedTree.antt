-- Pruned from the first level on, the tree of fused terms is the join of the terms: so what is written of it is the result.
use Rattle.std.specs.Prelude.{◌≡◌, ◌<◌, ◌≤◌, ℕ, suc, Bool, true, false, ◌||◌, List, [], ◌∷◌, ◌++◌, length, take, drop, slice_index, is_some, refl}
use Rattle.std.specs.List.{list_any}
use mathlib.Core.List.{map}
use Rattle.std.proofs.Common.{arith, sym, ◌∙◌, ap}
use Rattle.std.proofs.lemmas.List.{length_push}
use Rattle.sam_model.specs.Lists.{below, tuples}
use Rattle.stream_model.specs.Grow.{path_fibers}
use Rattle.stream_model.specs.Terms.{Summand}
use Rattle.stream_model.specs.Trees.{sum_there, in_term, value_term, begins_value, free_count, pruned_from}
use Rattle.stream_model.specs.Joins.{join_upto, signed}
use Rattle.sam_model.proofs.Lists.{list_any-map, list_any-ext, filter-ext}
use Rattle.stream_model.proofs.Grown.{paths-same}
use Rattle.stream_model.proofs.Pruned.{late-test}
use Rattle.stream_model.proofs.Results.{EachSized}
use Rattle.stream_model.proofs.Sums.{is_some-sum}
use Rattle.stream_model.specs.Tellings.{Telling}
use Rattle.stream_model.specs.Fused.{in_any}
use Rattle.label_rules.proofs.laws.DropLaws.{early, late}
use Rattle.label_rules.proofs.shared.EndLaws.{Begins, joint-values, signed_there}

-- two lists are searched in either order
searched : {A B : Type 0} (test : A → B → Bool) (xs : List A) (ys : List B)
    → list_any (λ y. list_any (λ x. test x y) xs) ys ≡ list_any (λ x. list_any (test x) ys) xs
searched test [] [] = refl
searched test [] (y ∷ ys) = searched test [] ys
searched {A = A} {B = B} test (x ∷ xs) ys =
    parted (test x) (λ y. list_any (λ x. test x y) xs) ys ∙ ap (λ b. list_any (test x) ys || b) (searched test xs ys)
  where
    four : (a b c d : Bool) → ((a || b) || (c || d)) ≡ ((a || c) || (b || d))
    four true b c d = refl
    four false true true d = refl
    four false true false d = refl
    four false false c d = refl

    parted : (p q : B → Bool) (zs : List B) → list_any (λ z. p z || q z) zs ≡ (list_any p zs || list_any q zs)
    parted p q [] = refl
    parted p q (z ∷ zs) = ap (λ b. (p z || q z) || b) (parted p q zs) ∙ four (p z) (q z) (list_any p zs) (list_any q zs)

module _ (ss : List Summand) (sizes : List ℕ) (founded : in_any ss [] ≡ true) (last : ℕ) (all : take (suc last) ss ≡ ss)
    (begins : Begins ss sizes founded ss) (each : EachSized sizes ss) where
  abbrev value : Telling
  value = (join_upto ss last).value

  -- a list begins a value of all terms where it begins one of some term
  joined-begins : (p : List ℕ) → begins_value value sizes p ≡ list_any (λ s. begins_value (value_term s.term) sizes p) ss
  joined-begins p =
      list_any-ext (λ rest. is_some (value (p ++ rest))) (λ rest. list_any (λ s. is_some (value_term s.term (p ++ rest))) ss)
      (λ rest.
      ap (λ (xs : List Summand). is_some (sum_there (map (λ s. signed s (p ++ rest)) xs))) all
      ∙ is_some-sum (map (λ s. signed s (p ++ rest)) ss)
      ∙ list_any-map is_some (λ s. signed s (p ++ rest)) ss
      ∙ list_any-ext (λ s. is_some (signed s (p ++ rest))) (λ s. is_some (value_term s.term (p ++ rest)))
      (λ s. signed_there ss sizes founded s (p ++ rest)) ss)
      (tuples (drop (length p) sizes))
      ∙ searched (λ (s : Summand) (rest : List ℕ). is_some (value_term s.term (p ++ rest))) ss (tuples (drop (length p) sizes))

  terms_begin : (more : List Summand) → EachSized sizes more → (p : List ℕ) → 0 < length p
      → list_any (λ s. begins_value (value_term s.term) sizes p) more ≡ list_any (λ s. in_term s.term p) more
  terms_begin [] e p l = refl
  terms_begin (s ∷ more) e p l =
      ap (λ b. b || list_any (λ s. begins_value (value_term s.term) sizes p) more)
      (ap (λ (xs : List ℕ). begins_value (value_term s.term) xs p) (sym e.0)
      ∙ sym (late-test s.term (free_count s.term.loops) 1 p (omega (arith, l))))
      ∙ ap (λ b. in_term s.term p || b) (terms_begin more e.1 p l)

  -- so it is in the join
  pub united : (p : List ℕ) → 0 < length p → length p ≤ length sizes → pruned_from (in_any ss) value sizes 1 p ≡ (join_upto ss last).has p
  united p l m =
      late (in_any ss) value sizes founded (joint-values ss sizes founded last all begins) 1 p (omega (arith, l)) m
      ∙ joined-begins p
      ∙ terms_begin ss each p l
      ∙ ap (list_any (λ s. in_term s.term p)) (sym all)

  pub united-tree : (d : ℕ) → d ≤ length sizes → path_fibers (pruned_from (in_any ss) value sizes 1) sizes d ≡ path_fibers (join_upto ss last).has sizes d
  united-tree d h =
      paths-same (pruned_from (in_any ss) value sizes 1) (join_upto ss last).has sizes sizes
      (early (in_any ss) value sizes founded (joint-values ss sizes founded last all begins) 1 [] (omega arith) ∙ founded) d
      (λ e p less i.
      ap (λ (cs : List ℕ). map (λ c. p ++ c ∷ []) cs)
      (filter-ext (λ c. pruned_from (in_any ss) value sizes 1 (p ++ c ∷ [])) (λ c. (join_upto ss last).has (p ++ c ∷ []))
      (λ c. united (p ++ c ∷ []) (omega (arith, length_push p c)) (omega (arith, length_push p c, i.count, less, h)))
      (below (slice_index sizes (length p)))))
