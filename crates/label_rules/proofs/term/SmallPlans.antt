-- The terms of an accepted program: how many there are, and that their plans are small and have the result's levels.
use Rattle.std.specs.Prelude.{◌≡◌, ◌≤◌, ℕ, zero, suc, Bool, true, false, cond, ◌&&◌, List, [], ◌∷◌, length, nat_le, slice_index, slice_get, Some, refl}
use Rattle.std.specs.List.{list_all, list_any, filter}
use mathlib.Core.List.{map}
use Rattle.std.proofs.Common.{arith, sym, ◌∙◌, ap}
use Rattle.std.proofs.lemmas.Bool.{and_parts, leb-true}
use Rattle.std.proofs.lemmas.List.{length-map}
use Rattle.sam_model.specs.declared.program.Factor.{Factor}
use Rattle.sam_model.specs.declared.program.Factor.TheVariants.{Access, Literal}
use Rattle.sam_model.specs.declared.program.Term.{Term}
use Rattle.sam_model.specs.declared.program.Program.{Program}
use Rattle.sam_model.specs.Lists.{is_in}
use Rattle.sam_model.specs.Denote.{loops_of, loop_list}
use Rattle.sam_model.specs.Accepted.{term_fits, factor_fits, is_access, term_has, factor_reduces}
use Rattle.sam_model.specs.Program.{accepted}
use Rattle.sam_model.proofs.AcceptedPrograms.{accepted-parts}
use Rattle.stream_model.proofs.Places.{accepted-terms, term-left}
use Rattle.stream_model.proofs.Depths.{term-few}
use Rattle.label_rules.specs.Plans.{accesses_of, plan_of, PlanIsSmall, left_marks}

-- ---- how many terms

-- an accepted program has a term
pub some_term : (p : Program) → accepted p ≡ true → 1 ≤ length p.terms
some_term p h = (accepted-parts p h).some

-- and at most sixteen
pub few_terms : (p : Program) → accepted p ≡ true → length p.terms ≤ 16
few_terms p h = (accepted-parts p h).short

-- ---- each of them

each_fits : (p : Program) (ts : List Term) (n : ℕ) (t : Term) → list_all (term_fits p.tensors p.var_sizes p.left) ts ≡ true
    → slice_get ts n ≡ Some t → term_fits p.tensors p.var_sizes p.left t ≡ true
each_fits p [] n t h e = absurd (cc)
each_fits p (u ∷ ts) zero t h e =
    let same : u ≡ t = cc in
    ap (term_fits p.tensors p.var_sizes p.left) (sym same)
    ∙ (and_parts (term_fits p.tensors p.var_sizes p.left u) (list_all (term_fits p.tensors p.var_sizes p.left) ts) h).0
each_fits p (u ∷ ts) (suc n) t h e =
    each_fits p ts n t (and_parts (term_fits p.tensors p.var_sizes p.left u)
    (list_all (term_fits p.tensors p.var_sizes p.left) ts) h).1 e

-- the terms of an accepted program fit
pub term_at_fits : (p : Program) (n : ℕ) (t : Term) → accepted p ≡ true → slice_get p.terms n ≡ Some t
    → term_fits p.tensors p.var_sizes p.left t ≡ true
term_at_fits p n t h e = each_fits p p.terms n t (accepted-terms p h) e

few_accesses : (loops : List ℕ) (factors : List Factor) → length (accesses_of loops factors) ≤ length factors
few_accesses loops [] = omega arith
few_accesses loops (Access n vars ∷ factors) = let h = few_accesses loops factors in omega arith
few_accesses loops (Literal n ∷ factors) = let h = few_accesses loops factors in omega arith

few_factors : (p : Program) (t : Term) → term_fits p.tensors p.var_sizes p.left t ≡ true → length t.factors ≤ 8
few_factors p t h =
    let others = list_all (factor_fits p.tensors p.var_sizes) t.factors
    && (list_any is_access t.factors && (list_all (term_has t) p.left && list_all (factor_reduces p.left) t.factors)) in
    let fit = (and_parts (nat_le 1 (length t.factors)) (nat_le (length t.factors) 8 && others) h).1 in
    leb-true (length t.factors) 8 (and_parts (nat_le (length t.factors) 8) others fit).0

-- the plan of a term that fits
pub small-plan : (p : Program) (first : Bool) (t : Term) → accepted p ≡ true → term_fits p.tensors p.var_sizes p.left t ≡ true
    → PlanIsSmall (plan_of p first t)
small-plan p first t h k = record {
  loops =
      let marks = length-map (loops_of p t) (λ v. is_in v p.left) in
      let loops : length (loop_list p t) ≡ length (loops_of p t) =
      length-map (loops_of p t) (λ v. (slice_index p.var_sizes v, is_in v p.left)) in
      omega (arith, marks, loops, term-few p t h);
  accesses = omega (arith, few_accesses (loops_of p t) t.factors, few_factors p t k);
}

marks_filtered : (test : ℕ → Bool) (vs : List ℕ) → left_marks (map test vs) ≡ length (filter test vs)
marks_filtered test [] = refl
marks_filtered test (v ∷ vs) = by_case (test v) (marks_filtered test vs)
  where
    by_case : (b : Bool) → left_marks (map test vs) ≡ length (filter test vs)
        → cond b (suc (left_marks (map test vs))) (left_marks (map test vs))
        ≡ length (cond b (v ∷ filter test vs) (filter test vs))
    by_case true e = ap suc e
    by_case false e = e

-- as many of a term's loops are on the left as the result has levels
pub plan-levels : (p : Program) (first : Bool) (t : Term) → accepted p ≡ true → term_fits p.tensors p.var_sizes p.left t ≡ true
    → left_marks (plan_of p first t).on_left ≡ length p.result.order
plan-levels p first t h k =
    marks_filtered (λ v. is_in v p.left) (loops_of p t)
    ∙ ap (λ (vs : List ℕ). length vs) (term-left p t h k).loops
    ∙ length-map p.result.order (slice_index p.left)
