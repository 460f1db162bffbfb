-- What holds of the terms of a program whose terms are fused: the loops of the result come first in each.
use Rattle.std.specs.Prelude.{◌≡◌, ◌<◌, ◌≤◌, ℕ, zero, suc, ◌+◌, Bool, true, false, cond, ◌&&◌, List, [], ◌∷◌, ◌++◌, length, get_or, slice_index, eqb, ltb, leb, nat_le, refl}
use Rattle.std.specs.List.{list_all, list_any, filter}
use mathlib.Core.List.{map}
use Rattle.std.proofs.Common.{arith, sym, ◌∙◌, ap}
use Rattle.std.proofs.lemmas.Bool.{and_parts, ltb-true, eqb-true, leb-true}
use Rattle.std.proofs.lemmas.List.{length-map}
use Rattle.sam_model.specs.declared.tensors.Tensor.{Tensor}
use Rattle.sam_model.specs.declared.program.Term.{Term}
use Rattle.sam_model.specs.declared.program.Program.{Program}
use Rattle.sam_model.specs.Lists.{is_in, below}
use Rattle.sam_model.specs.Denote.{has_var}
use Rattle.sam_model.specs.Accepted.{term_fits, factor_fits, is_access, term_has, factor_reduces}
use Rattle.sam_model.specs.Program.{accepted}
use Rattle.sam_model.proofs.Orders.{list_all-member}
use Rattle.stream_model.specs.Fused.{leading_marks, shared_levels}
use Rattle.stream_model.specs.Labels.{result_sizes}
use Rattle.stream_model.proofs.Places.{accepted-terms}
use Rattle.label_rules.specs.Plans.{left_marks}
use Rattle.label_rules.specs.TermLabels.{empty_term, plan_at, loop_count, free_loop_count}
use Rattle.custard_lower.proofs.term.PlanFacts.{levels-are}
use Rattle.custard_lower.proofs.term.ReducedSound.{marks-counted}
use Rattle.custard_fuse.specs.Sharing.{all_factors}
use Rattle.custard_fuse.specs.Fusing.{plans_of, is_fused}

-- ---- marks that come first

-- numbers with the first mark stay where those that lack it may be left out
leading_kept : (mark test : ℕ → Bool) (xs : List ℕ) → ((v : ℕ) → mark v ≡ true → test v ≡ true)
    → leading_marks (map mark xs) ≤ leading_marks (map mark (filter test xs))
leading_kept mark test [] h = omega arith
leading_kept mark test (x ∷ xs) h = by_case (mark x) (test x) (h x) (leading_kept mark test xs h) refl
  where
    by_case : (b c : Bool) → (b ≡ true → c ≡ true) → leading_marks (map mark xs) ≤ leading_marks (map mark (filter test xs)) → mark x ≡ b
        → cond b (suc (leading_marks (map mark xs))) 0 ≤ leading_marks (map mark (cond c (x ∷ filter test xs) (filter test xs)))
    by_case true true k r e = let m : cond (mark x) (suc (leading_marks (map mark (filter test xs)))) 0 ≡ suc (leading_marks (map mark (filter test xs))) = ap (λ b. cond b (suc (leading_marks (map mark (filter test xs)))) 0) e in omega (arith, r, m)
    by_case true false k r e = let f = k refl in absurd (cc)
    by_case false c k r e = omega arith

leading_long : (marks : List Bool) → leading_marks marks ≤ length marks
leading_long [] = omega arith
leading_long (true ∷ marks) = let r = leading_long marks in omega (arith, r)
leading_long (false ∷ marks) = omega arith

-- where so many marks come first, a mark that is missing comes after them, and they are all before it
leading_before : (before after : List Bool) → leading_marks (before ++ false ∷ after) ≤ length before
leading_before [] after = omega arith
leading_before (true ∷ before) after = let r = leading_before before after in omega (arith, r)
leading_before (false ∷ before) after = omega arith

leading_left : (before after : List Bool) → leading_marks (before ++ false ∷ after) ≤ left_marks before
leading_left [] after = omega arith
leading_left (true ∷ before) after = let r = leading_left before after in omega (arith, r)
leading_left (false ∷ before) after = omega arith

pub left-append : (xs ys : List Bool) → left_marks (xs ++ ys) ≡ left_marks xs + left_marks ys
left-append [] ys = omega arith
left-append (true ∷ xs) ys = let r = left-append xs ys in omega (arith, r)
left-append (false ∷ xs) ys = left-append xs ys

-- ---- terms

-- a term of an accepted program
fits_at : (p : Program) (ts : List Term) (n : ℕ) → n < length ts → list_all (term_fits p.tensors p.var_sizes p.left) ts ≡ true
    → term_fits p.tensors p.var_sizes p.left (get_or ts n empty_term) ≡ true
fits_at p [] n l e = absurd (omega (arith, l))
fits_at p (t ∷ ts) zero l e = (and_parts (term_fits p.tensors p.var_sizes p.left t) (list_all (term_fits p.tensors p.var_sizes p.left) ts) e).0
fits_at p (t ∷ ts) (suc n) l e =
    fits_at p ts n (omega (arith, l)) (and_parts (term_fits p.tensors p.var_sizes p.left t) (list_all (term_fits p.tensors p.var_sizes p.left) ts) e).1

-- has each variable of the left
has_left : (tensors : List Tensor) (sizes left : List ℕ) (t : Term) → term_fits tensors sizes left t ≡ true → list_all (term_has t) left ≡ true
has_left tensors sizes left t e =
    let others = list_all (term_has t) left && list_all (factor_reduces left) t.factors in
    let a = (and_parts (nat_le 1 (length t.factors)) (nat_le (length t.factors) 8 && (list_all (factor_fits tensors sizes) t.factors && (list_any is_access t.factors && others))) e).1 in
    let b = (and_parts (nat_le (length t.factors) 8) (list_all (factor_fits tensors sizes) t.factors && (list_any is_access t.factors && others)) a).1 in
    let c = (and_parts (list_all (factor_fits tensors sizes) t.factors) (list_any is_access t.factors && others) b).1 in
    let d = (and_parts (list_any is_access t.factors) others c).1 in
    (and_parts (list_all (term_has t) left) (list_all (factor_reduces left) t.factors) d).0

-- ---- programs whose terms are fused

module _ (p : Program) (ok : accepted p ≡ true) (fused : is_fused p ≡ true) where
  parts : (1 < length p.terms) × (all_factors (plans_of p) ≤ 8) × (0 < shared_levels p) × (shared_levels p ≡ length p.result.order)
  parts =
      let one = and_parts (ltb 1 (length p.terms)) (leb (all_factors (plans_of p)) 8 && (ltb 0 (shared_levels p) && eqb (shared_levels p) (length p.result.order))) fused in
      let two = and_parts (leb (all_factors (plans_of p)) 8) (ltb 0 (shared_levels p) && eqb (shared_levels p) (length p.result.order)) one.1 in
      let three = and_parts (ltb 0 (shared_levels p)) (eqb (shared_levels p) (length p.result.order)) two.1 in (
        ltb-true 1 (length p.terms) one.0,
        leb-true (all_factors (plans_of p)) 8 two.0,
        ltb-true 0 (shared_levels p) three.0,
        eqb-true (shared_levels p) (length p.result.order) three.1,
      )

  pub several : 1 < length p.terms
  several = parts.0

  pub few-factors : all_factors (plans_of p) ≤ 8
  few-factors = parts.1

  pub some-levels : 0 < shared_levels p
  some-levels = parts.2

  -- the shared levels are those of the result
  pub levels-shared : shared_levels p ≡ length (result_sizes p)
  levels-shared = parts.3 ∙ sym (length-map p.result.order (slice_index p.result.dims))

  module _ (n : ℕ) (inside : n < length p.terms) where
    abbrev marks : List Bool
    marks = (plan_at p n).on_left

    pub leading : shared_levels p ≤ leading_marks marks
    leading =
        leading_kept (λ v. is_in v p.left) (λ v. list_any (has_var v) (get_or p.terms n empty_term).factors) (below (length p.var_sizes))
        (λ v e.
        list_all-member (term_has (get_or p.terms n empty_term)) p.left v
        (has_left p.tensors p.var_sizes p.left (get_or p.terms n empty_term) (fits_at p p.terms n inside (accepted-terms p ok))) e)

    -- as many of its loops are on the left
    pub left-shared : left_marks marks ≡ shared_levels p
    left-shared = levels-are p ok n inside ∙ sym levels-shared

    pub levels-within : shared_levels p ≤ loop_count p n
    levels-within = let a = leading in let b = leading_long marks in omega (arith, a, b)

    -- no other loop comes before the shared ones, and no loop of the left after them
    pub after-shared : (before after : List Bool) → marks ≡ before ++ false ∷ after → (shared_levels p ≤ length before) × (left_marks after ≡ 0)
    after-shared before after e =
        let a = leading in
        let b : leading_marks marks ≡ leading_marks (before ++ false ∷ after) = ap leading_marks e in
        let c = leading_before before after in
        let d = leading_left before after in
        let f = left-shared in
        let g : left_marks marks ≡ left_marks (before ++ false ∷ after) = ap left_marks e in
        let h = left-append before (false ∷ after) in
        (omega (arith, a, b, c), omega (arith, a, b, d, f, g, h))

    -- the others are all that isn't on the left
    pub free-others : loop_count p n ≡ shared_levels p + free_loop_count p n
    free-others = let a = marks-counted marks in let b = left-shared in omega (arith, a, b)
