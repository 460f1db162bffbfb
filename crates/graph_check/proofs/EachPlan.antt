-- The plans that are kept of a program's terms.
use Rattle.std.specs.Prelude.{◌≡◌, ◌<◌, ◌≤◌, ℕ, zero, suc, ◌+◌, Bool, true, false, List, [], ◌∷◌, ◌++◌, None, length, get_or, eqb, refl}
use Rattle.std.specs.List.{filter, range_with_len}
use mathlib.Core.List.{map}
use Rattle.std.proofs.Common.{arith, sym, ◌∙◌, ap, subst, ◌⊎◌, inl, inr}
use Rattle.std.proofs.lemmas.Bool.{cases_lt}
use Rattle.std.proofs.lemmas.Bool.Decides.{nat_tests}
use Rattle.std.proofs.lemmas.List.FromFn.{map-range_with_len_more, get_or-map-range_with_len, length-map-range_with_len}
use Rattle.std.proofs.lemmas.Option.{slice_get-get_or}
use Rattle.sam_model.specs.declared.program.Program.{Program}
use Rattle.sam_model.specs.Program.{accepted}
use Rattle.sam_model.specs.Lists.{below, is_in}
use Rattle.label_rules.specs.declared.plans.Plan.{Plan}
use Rattle.label_rules.specs.Plans.{plan_of, PlanIsSmall}
use Rattle.label_rules.specs.TermLabels.{plan_at, empty_term}
use Rattle.label_rules.proofs.term.SmallPlans.{some_term, small-plan, term_at_fits}

-- one plan more
pub plan-more : (p : Program) (n : ℕ) (xs ys : List Plan) (x : Plan) → xs ≡ map (plan_at p) (range_with_len 0 n) → x ≡ plan_at p n
    → ys ≡ xs ++ x ∷ [] → ys ≡ map (plan_at p) (range_with_len 0 (n + 1))
plan-more p n xs ys x e next more =
    let count : 0 + n ≡ n = omega arith in
    rw (more, e, next, map-range_with_len_more (plan_at p) 0 n n count) refl

abbrev pub no_plan : Plan
no_plan = record { on_left = []; accesses = []; coefficient = None }

never : (xs : List ℕ) → filter (λ _. false) xs ≡ []
never [] = refl
never (x ∷ xs) = never xs

none-planned : (p : Program) → plan_of p false empty_term ≡ no_plan
none-planned p = ap (λ (vs : List ℕ). record { on_left = map (λ v. is_in v p.left) vs; accesses = []; coefficient = None }) (never (below (length p.var_sizes)))

past-end : {A : Type 0} (xs : List A) (n : ℕ) (d : A) → length xs ≤ n → get_or xs n d ≡ d
past-end [] n d l = refl
past-end (x ∷ xs) zero d l = absurd (omega (arith, l))
past-end (x ∷ xs) (suc n) d l = past-end xs n d (omega (arith, l))

module _ (p : Program) (ok : accepted p ≡ true) where
  past-plan : (t : ℕ) → length p.terms ≤ t → plan_at p t ≡ no_plan
  past-plan t far =
      let some = some_term p ok in
      let first : eqb t 0 ≡ false = grind (arith, nat_tests, some, far) in
      ap (λ (b : Bool). plan_of p b (get_or p.terms t empty_term)) first
      ∙ ap (plan_of p false) (past-end p.terms t empty_term far)
      ∙ none-planned p

  pub each-plan : (t : ℕ) → get_or (map (plan_at p) (below (length p.terms))) t no_plan ≡ plan_at p t
  each-plan t = by_place (cases_lt t (length p.terms))
    where
      by_place : (t < length p.terms) ⊎ (length p.terms ≤ t) → get_or (map (plan_at p) (below (length p.terms))) t no_plan ≡ plan_at p t
      by_place (inl near) = get_or-map-range_with_len (plan_at p) 0 (length p.terms) t t no_plan near (omega arith)
      by_place (inr far) =
          let long = length-map-range_with_len (plan_at p) 0 (length p.terms) in
          past-end (map (plan_at p) (below (length p.terms))) t no_plan (omega (arith, far, long)) ∙ sym (past-plan t far)

  pub each-small : (t : ℕ) → PlanIsSmall (plan_at p t)
  each-small t = by_place (cases_lt t (length p.terms))
    where
      by_place : (t < length p.terms) ⊎ (length p.terms ≤ t) → PlanIsSmall (plan_at p t)
      by_place (inl near) =
          small-plan p (eqb t 0) (get_or p.terms t empty_term) ok
          (term_at_fits p t (get_or p.terms t empty_term) ok (slice_get-get_or p.terms t empty_term near))
      by_place (inr far) = subst PlanIsSmall (sym (past-plan t far)) (record { loops = omega arith; accesses = omega arith })
