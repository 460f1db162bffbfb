-- The blocks of a term's values meet their rules.
use Rattle.std.specs.Prelude.{◌≡◌, ◌<◌, ℕ, suc, ◌-◌, Bool, true, false, cond, ◌&&◌, List, [], ◌∷◌, length, eqb, ltb, leb, Option, Some, None, refl}
use Rattle.std.proofs.Common.{arith, sym, ap, subst, inl, inr}
use Rattle.std.proofs.lemmas.Bool.Decides.{nat_tests}
use Rattle.sam_model.specs.declared.program.Program.{Program}
use Rattle.sam_model.proofs.Lists.{and-false}
use Rattle.stream_model.specs.declared.labels.Attr.TheVariants.{Rank, FactorValue, Partial, Whole, Literal}
use Rattle.stream_model.specs.declared.labels.Label.{Label}
use Rattle.graph.specs.declared.graphs.Kind.TheVariants as kind
use Rattle.custard_lower.specs.declared.trees.TermTrees.TheVariants.{Own}
use Rattle.label_rules.specs.Labels.{tree_code, attr_code, IsOneOf, PortsAllow, same_label}
use Rattle.label_rules.specs.Plans.{plan_access}
use Rattle.label_rules.specs.TermLabels.{plan_at, is_term, factor_count, plan_coefficient, bottom_label, partial_labels, value_labels}
use Rattle.label_rules.specs.Rules.{Instance, Allowed}
use Rattle.label_rules.proofs.rules.Exact.{same_itself}
use Rattle.custard_lower.proofs.term.TermAllowed.{ValuesAllowed}
use Rattle.custard_lower.proofs.term.PlainRules.{Plain, plain}

-- one of two instances, by a test
pub by-test : (b c : Bool) (i j : Instance) (ins outs : List Label) → b ≡ c → ((cond c i j).holds ≡ true) → PortsAllow (cond c i j).ins ins
    → outs ≡ (cond c i j).outs
    → ((cond b i j).holds ≡ true) × PortsAllow (cond b i j).ins ins × (outs ≡ (cond b i j).outs)
by-test true true i j ins outs e h x o = (h, x, o)
by-test false false i j ins outs e h x o = (h, x, o)
by-test true false i j ins outs e h x o = absurd (cc)
by-test false true i j ins outs e h x o = absurd (cc)

-- the coefficient of a term, by whether it has a literal
pub coefficient-by : (p : Program) (n : ℕ) (c : Option ℕ) → (plan_at p n).coefficient ≡ c
    → plan_coefficient p n ≡ (elim c as (λ _. ℕ) [ None ↦ 1 | Some k ↦ k ])
coefficient-by p n c e = ap (λ (o : Option ℕ). elim o as (λ _. ℕ) [ None ↦ 1 | Some k ↦ k ]) e

module _ (p : Program) (n : ℕ) (inside : n < length p.terms) where
  -- what holds of both labels that a product may have
  one_product : (P : Label → Type 0) (k : ℕ) (l : Label) → P (bottom_label p n (Partial k)) → P (bottom_label p n (FactorValue 0))
      → IsOneOf l (partial_labels p n k) → P l
  one_product P k l x y (inl e) = subst P (sym e) x
  one_product P k l x y (inr z) = by_case (eqb k 1) z
    where
      by_case : (b : Bool) → IsOneOf l (cond b (bottom_label p n (FactorValue 0) ∷ []) []) → P l
      by_case true (inl e) = subst P (sym e) y
      by_case true (inr z) = absurd z
      by_case false z = absurd z

  is_there : ltb n (length p.terms) ≡ true
  is_there = grind (arith, nat_tests, inside)

  abbrev whole_instance : Instance
  whole_instance = record {
    holds = is_term p n;
    ins = partial_labels p n (factor_count p n) ∷ (bottom_label p n (Literal (plan_coefficient p n)) ∷ []) ∷ [];
    outs = bottom_label p n Whole ∷ [];
  }

  abbrev product_instance : ℕ → Instance
  product_instance k = record {
    holds = is_term p n && (ltb 1 k && leb k (factor_count p n));
    ins = partial_labels p n (k - 1) ∷ (bottom_label p n (FactorValue (k - 1)) ∷ []) ∷ [];
    outs = bottom_label p n (Partial k) ∷ [];
  }

  product_allowed : (k : ℕ) (l : Label) → 0 < k → k < factor_count p n → IsOneOf l (partial_labels p n k)
      → Allowed p kind.Mul (l ∷ bottom_label p n (FactorValue k) ∷ []) (bottom_label p n (Partial (suc k)) ∷ [])
  product_allowed k l some less x =
      let ins = l ∷ bottom_label p n (FactorValue k) ∷ [] in
      let outs = bottom_label p n (Partial (suc k)) ∷ [] in
      let a : ltb 1 (suc k) ≡ true = grind (arith, nat_tests, some) in
      let b : leb (suc k) (factor_count p n) ≡ true = grind (arith, nat_tests, less) in
      let back : k ≡ suc k - 1 = omega arith in
      let q =
      by-test (same_label (bottom_label p n (Partial (suc k))) (bottom_label p n Whole)) false whole_instance (product_instance (suc k)) ins outs
      (and-false _) (rw (is_there, a, b) refl)
      (subst (λ (i : ℕ). IsOneOf l (partial_labels p n i)) back x, (inl (ap (λ (i : ℕ). bottom_label p n (FactorValue i)) back), tt)) refl in
      record { holds = q.0; ins_are = q.1; outs_are = q.2 }

  scaling_allowed : (c : ℕ) (l : Label) → plan_coefficient p n ≡ c → IsOneOf l (partial_labels p n (factor_count p n))
      → Allowed p kind.Mul (l ∷ bottom_label p n (Literal c) ∷ []) (bottom_label p n Whole ∷ [])
  scaling_allowed c l is x =
      let ins = l ∷ bottom_label p n (Literal c) ∷ [] in
      let outs = bottom_label p n Whole ∷ [] in
      let q =
      by-test (same_label (bottom_label p n Whole) (bottom_label p n Whole)) true whole_instance (product_instance 0) ins outs
      (same_to_itself (bottom_label p n Whole)) is_there
      (x, (inl (ap (λ (i : ℕ). bottom_label p n (Literal i)) (sym is)), tt)) refl in
      record { holds = q.0; ins_are = q.1; outs_are = q.2 }
    where
      same_to_itself : (l : Label) → same_label l l ≡ true
      same_to_itself l = rw (same_itself (tree_code l.tree), same_itself (attr_code l.attr)) refl

  pub values-allowed : ValuesAllowed (Plain p) (Own n) (plan_at p n) (λ f. bottom_label p n (Rank f)) (value_labels p n 0)
  values-allowed = record {
    array = λ f l.
        let b : ltb f (factor_count p n) ≡ true = grind (arith, nat_tests, l) in
        let e : eqb (plan_access (plan_at p n) f).tensor (plan_access (plan_at p n) f).tensor ≡ true = grind (arith, nat_tests) in
        plain p _ _ _ (omega arith) refl
        (record { holds = rw (is_there, b, e) refl; ins_are = (inl refl, tt); outs_are = refl });
    product = λ k l some less x. plain p _ _ _ (omega arith) refl (product_allowed k l some less x);
    constant = λ c l is x.
        plain p _ _ _ (omega arith) refl
        (one_product (λ l. Allowed p (kind.Const c) (l ∷ []) (bottom_label p n (Literal c) ∷ [])) (factor_count p n) l
        (record { holds = refl; ins_are = (inl refl, tt); outs_are = refl })
        (record { holds = refl; ins_are = (inl refl, tt); outs_are = refl }) x);
    scaling = λ c l is x. plain p _ _ _ (omega arith) refl (scaling_allowed c l (coefficient-by p n (Some c) is) x);
    whole = inl refl;
    unscaled = λ l is x.
        inr (subst (λ (c : ℕ). IsOneOf l (cond (eqb c 1) (partial_labels p n (factor_count p n)) [])) (sym (coefficient-by p n None is)) x);
  }
