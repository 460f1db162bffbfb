-- The rules of fused graphs allow the blocks of a term: its loops, its values, its sums, and what is dropped in the end.
use Rattle.std.specs.Prelude.{◌≡◌, ◌<◌, ◌≤◌, ℕ, zero, suc, ◌+◌, ◌-◌, Bool, true, false, cond, ◌&&◌, List, [], ◌∷◌, ◌++◌, length, eqb, ltb, leb, Some, None, refl}
use Rattle.std.specs.Int.Bits.{bit_or}
use Rattle.std.proofs.Common.{arith, sym, ◌∙◌, ap, subst, length-append, inl, inr}
use Rattle.std.proofs.lemmas.Bool.Decides.{nat_tests}
use Rattle.sam_model.specs.declared.program.Program.{Program}
use Rattle.sam_model.specs.Program.{accepted}
use Rattle.sam_model.proofs.Lists.{and-false}
use Rattle.stream_model.specs.declared.labels.Attr.TheVariants.{Rank, FactorValue, Partial, Whole, Value, Literal}
use Rattle.stream_model.specs.declared.labels.Label.{Label}
use Rattle.stream_model.specs.declared.labels.Tree.{Tree}
use Rattle.stream_model.specs.declared.labels.Tree.TheVariants.{Across, Under, UnderReduced}
use Rattle.stream_model.specs.Fused.{shared_levels}
use Rattle.stream_model.specs.Masks.{levels_before}
use Rattle.graph.specs.declared.graphs.Kind.{Kind}
use Rattle.graph.specs.declared.graphs.Kind.TheVariants as kind
use Rattle.graph.specs.Assembly.{payloads_of}
use Rattle.label_rules.specs.Holding.{Rules}
use Rattle.label_rules.specs.Named.{tree_term}
use Rattle.custard_lower.specs.Trees.{bottom_tree}
use Rattle.label_rules.specs.Labels.{tree_label, just_these, tree_code, attr_code, IsOneOf, PortsAllow, same_label}
use Rattle.label_rules.specs.Masks.{factors_mask}
use Rattle.label_rules.specs.Plans.{plan_access, left_marks, free_marks}
use Rattle.label_rules.specs.TermLabels.{plan_at, is_term, loop_count, factor_count, free_loop_count, plan_coefficient, full_mask, left_after}
use Rattle.label_rules.specs.Rules.{Instance}
use Rattle.label_rules.proofs.rules.Exact.{same_itself}
use Rattle.custard_lower.specs.declared.trees.PrunedTrees.TheVariants.{OfAll}
use Rattle.custard_lower.proofs.draft.Emitted.{is_writer, Unwritten}
use Rattle.custard_lower.proofs.term.TermAllowed.{LevelAllowed, ValuesAllowed, SumAllowed, SumsAllowed, DropsAllowed, level_labels}
use Rattle.custard_lower.proofs.term.MetAllowed.{these_read, those_read, mask_read, these-are, those-are, ins-met, outs-met}
use Rattle.custard_lower.proofs.term.ValuesAllowed.{by-test, coefficient-by}
use Rattle.custard_lower.proofs.term.ReducedSound.{marks-counted}
use Rattle.custard_lower.proofs.term.SumsAllowed.{free-append, left-found}
use Rattle.custard_lower.proofs.term.PlanFacts.{is-small}
use Rattle.custard_fuse.specs.Fusing.{is_fused}
use Rattle.custard_fuse.specs.FusedRules.{under_mask, last_term, fused_trees, is_level, under_labels, fused_reference, level_label, fused_bottom, fused_products, fused_values, values_upto, FusedAllowed}
use Rattle.custard_fuse.proofs.FusedPlans.{after-shared}

-- the labels at a block are allowed, and it brings few payloads together
pub record FusedRules (p : Program) (k : Kind) (ins outs : List Label) : Type 0 where
  pub allowed : FusedAllowed p k ins outs
  pub few : payloads_of k ≤ 8

-- and it is no writer
abbrev pub Fusing : Program → Rules
Fusing p = Unwritten (FusedRules p)

pub fusing : (p : Program) (k : Kind) (ins outs : List Label) → payloads_of k ≤ 8 → is_writer k ≡ false → FusedAllowed p k ins outs
    → Fusing p k ins outs
fusing p k ins outs few quiet a = (record { allowed = a; few = few }, quiet)

module _ (p : Program) (ok : accepted p ≡ true) (fused : is_fused p ≡ true) (n : ℕ) (inside : n < length p.terms) where
  abbrev levels : ℕ
  levels = shared_levels p

  is_there : ltb n (length p.terms) ≡ true
  is_there = grind (arith, nat_tests, inside)

  is_deep : (d : ℕ) → d < loop_count p n → is_level p n d ≡ true
  is_deep d l =
      let b : ltb d (loop_count p n) ≡ true = grind (arith, nat_tests, l) in
      ap (λ c. c && ltb d (loop_count p n)) is_there ∙ b

  -- ---- loops

  pub fused-level : (d : ℕ) → d < loop_count p n → LevelAllowed (Fusing p) (fused_trees p n) (plan_at p n) (fused_reference p n d) d
  fused-level d deep = record {
    scan = λ f l has.
        let a = is_deep d deep in
        let c : ltb f (factor_count p n) ≡ true = grind (arith, nat_tests, l) in
        let e : eqb (plan_access (plan_at p n) f).tensor (plan_access (plan_at p n) f).tensor ≡ true = grind (arith, nat_tests) in
        let k : eqb (suc (levels_before (plan_access (plan_at p n) f).has d)) (suc (levels_before (plan_access (plan_at p n) f).has d)) ≡ true =
        grind (arith, nat_tests) in
        let back : suc d - 1 ≡ d = omega arith in
        fusing p _ _ _ (omega arith) refl
        (record { holds = rw (back, a, c, has, e, k) refl; ins_are = rw back (inl refl, tt); outs_are = rw back refl });
    intersect = λ fs f l.
        let many = (is-small p ok n inside).accesses in
        let tree : ℕ → Tree = λ m. Under n (suc d) m in
        let these = these_read tree under_mask (λ m. refl) fs f in
        let those = those_read tree under_mask (λ m. refl) fs f in
        let mask = mask_read tree under_mask (λ m. refl) fs f in
        let a = is_deep d deep in
        let b : eqb (length fs) (length fs) ≡ true = grind (arith, nat_tests) in
        let back : suc d - 1 ≡ d = omega arith in
        let on : d ≡ suc d - 1 = omega arith in
        fusing p _ _ _ (omega (arith, l, many)) refl (record {
          holds = rw (back, a, these-are tree under_mask (λ m. refl) fs f, those-are tree under_mask (λ m. refl) fs f, b) refl;
          ins_are =
              subst (λ (i : ℕ). PortsAllow (just_these (under_labels p n (suc i) (factors_mask fs) these ++ under_labels p n (suc i) mask those))
              (under_labels p n (suc d) (factors_mask fs) fs ++ under_labels p n (suc d) (factors_mask (f ∷ [])) (f ∷ []))) on
              (ins-met tree under_mask (λ m. refl) fs f);
          outs_are =
              outs-met tree under_mask (λ m. refl) fs f
              ∙ ap (λ (i : ℕ). under_labels p n (suc i) (bit_or (factors_mask fs) mask) (these ++ those)) on;
        });
    repeat = λ f l lacks.
        let a = is_deep d deep in
        let c : ltb f (factor_count p n) ≡ true = grind (arith, nat_tests, l) in
        let back : suc d - 1 ≡ d = omega arith in
        fusing p _ _ _ (omega arith) refl
        (record { holds = rw (back, a, c, lacks) refl; ins_are = rw back (inl refl, (inl refl, tt)); outs_are = rw back refl });
  }

  -- ---- values

  -- a label below all loops names the term
  bottom_term : (b : Bool) (h m mask : ℕ) → tree_term (cond b (Across (last_term p) n h) (Under n m mask)) ≡ n
  bottom_term true h m mask = refl
  bottom_term false h m mask = refl

  names_term : tree_term (bottom_tree (fused_trees p n) (loop_count p n) (full_mask p n (loop_count p n - 1))) ≡ n
  names_term = bottom_term (eqb (loop_count p n) levels) levels (loop_count p n) (full_mask p n (loop_count p n - 1))

  -- an instance at this term
  abbrev Meets : Instance → List Label → List Label → Type 0
  Meets i ins outs = (i.holds ≡ true) × PortsAllow i.ins ins × (outs ≡ i.outs)

  at_term : (i : ℕ → Instance) (ins outs : List Label) → Meets (i n) ins outs
      → Meets (i (tree_term (bottom_tree (fused_trees p n) (loop_count p n) (full_mask p n (loop_count p n - 1))))) ins outs
  at_term i ins outs x = subst (λ (t : ℕ). Meets (i t) ins outs) (sym names_term) x

  abbrev array_instance : ℕ → ℕ → ℕ → Instance
  array_instance tensor f t = record {
    holds = is_term p t && (ltb f (factor_count p t) && eqb tensor (plan_access (plan_at p t) f).tensor);
    ins = just_these (fused_bottom p t (Rank f) ∷ []);
    outs = fused_bottom p t (FactorValue f) ∷ [];
  }

  abbrev whole_instance : ℕ → Instance
  whole_instance t = record {
    holds = is_term p t;
    ins = fused_products p t (factor_count p t) ∷ (fused_bottom p t (Literal (plan_coefficient p t)) ∷ []) ∷ [];
    outs = fused_bottom p t Whole ∷ [];
  }

  abbrev product_instance : ℕ → ℕ → Instance
  product_instance k t = record {
    holds = is_term p t && (ltb 1 k && leb k (factor_count p t));
    ins = fused_products p t (k - 1) ∷ (fused_bottom p t (FactorValue (k - 1)) ∷ []) ∷ [];
    outs = fused_bottom p t (Partial k) ∷ [];
  }

  abbrev const_instance : ℕ → ℕ → Instance
  const_instance c t = record { holds = is_term p t; ins = fused_products p t (factor_count p t) ∷ []; outs = fused_bottom p t (Literal c) ∷ [] }

  array_allowed : (f : ℕ) → f < factor_count p n
      → FusedAllowed p (kind.Array (plan_access (plan_at p n) f).tensor) (fused_bottom p n (Rank f) ∷ []) (fused_bottom p n (FactorValue f) ∷ [])
  array_allowed f l =
      let b : ltb f (factor_count p n) ≡ true = grind (arith, nat_tests, l) in
      let e : eqb (plan_access (plan_at p n) f).tensor (plan_access (plan_at p n) f).tensor ≡ true = grind (arith, nat_tests) in
      let q =
      at_term (array_instance (plan_access (plan_at p n) f).tensor f) (fused_bottom p n (Rank f) ∷ []) (fused_bottom p n (FactorValue f) ∷ [])
      (rw (is_there, b, e) refl, (inl refl, tt), refl) in
      record { holds = q.0; ins_are = q.1; outs_are = q.2 }

  product_allowed : (k : ℕ) (l : Label) → 0 < k → k < factor_count p n → IsOneOf l (fused_products p n k)
      → FusedAllowed p kind.Mul (l ∷ fused_bottom p n (FactorValue k) ∷ []) (fused_bottom p n (Partial (suc k)) ∷ [])
  product_allowed k l some less x =
      let ins = l ∷ fused_bottom p n (FactorValue k) ∷ [] in
      let outs = fused_bottom p n (Partial (suc k)) ∷ [] in
      let a : ltb 1 (suc k) ≡ true = grind (arith, nat_tests, some) in
      let b : leb (suc k) (factor_count p n) ≡ true = grind (arith, nat_tests, less) in
      let back : k ≡ suc k - 1 = omega arith in
      let q =
      at_term (λ t. cond (same_label (fused_bottom p n (Partial (suc k))) (fused_bottom p t Whole)) (whole_instance t) (product_instance (suc k) t)) ins outs
      (by-test (same_label (fused_bottom p n (Partial (suc k))) (fused_bottom p n Whole)) false (whole_instance n) (product_instance (suc k) n) ins outs
      (and-false _) (rw (is_there, a, b) refl)
      (subst (λ (i : ℕ). IsOneOf l (fused_products p n i)) back x, (inl (ap (λ (i : ℕ). fused_bottom p n (FactorValue i)) back), tt)) refl) in
      record { holds = q.0; ins_are = q.1; outs_are = q.2 }

  scaling_allowed : (c : ℕ) (l : Label) → plan_coefficient p n ≡ c → IsOneOf l (fused_products p n (factor_count p n))
      → FusedAllowed p kind.Mul (l ∷ fused_bottom p n (Literal c) ∷ []) (fused_bottom p n Whole ∷ [])
  scaling_allowed c l is x =
      let ins = l ∷ fused_bottom p n (Literal c) ∷ [] in
      let outs = fused_bottom p n Whole ∷ [] in
      let q =
      at_term (λ t. cond (same_label (fused_bottom p n Whole) (fused_bottom p t Whole)) (whole_instance t) (product_instance 0 t)) ins outs
      (by-test (same_label (fused_bottom p n Whole) (fused_bottom p n Whole)) true (whole_instance n) (product_instance 0 n) ins outs
      (same_to_itself (fused_bottom p n Whole)) is_there
      (x, (inl (ap (λ (i : ℕ). fused_bottom p n (Literal i)) (sym is)), tt)) refl) in
      record { holds = q.0; ins_are = q.1; outs_are = q.2 }
    where
      same_to_itself : (l : Label) → same_label l l ≡ true
      same_to_itself l = rw (same_itself (tree_code l.tree), same_itself (attr_code l.attr)) refl

  const_allowed : (c : ℕ) (l : Label) → IsOneOf l (fused_products p n (factor_count p n))
      → FusedAllowed p (kind.Const c) (l ∷ []) (fused_bottom p n (Literal c) ∷ [])
  const_allowed c l x =
      let q = at_term (const_instance c) (l ∷ []) (fused_bottom p n (Literal c) ∷ []) (is_there, (x, tt), refl) in
      record { holds = q.0; ins_are = q.1; outs_are = q.2 }

  pub fused-values-allowed : ValuesAllowed (Fusing p) (fused_trees p n) (plan_at p n) (λ f. fused_bottom p n (Rank f)) (fused_values p n 0)
  fused-values-allowed = record {
    array = λ f l. fusing p _ _ _ (omega arith) refl (array_allowed f l);
    product = λ k l some less x. fusing p _ _ _ (omega arith) refl (product_allowed k l some less x);
    constant = λ c l is x. fusing p _ _ _ (omega arith) refl (const_allowed c l x);
    scaling = λ c l is x. fusing p _ _ _ (omega arith) refl (scaling_allowed c l (coefficient-by p n (Some c) is) x);
    whole = inl refl;
    unscaled = λ l is x.
        inr (subst (λ (c : ℕ). IsOneOf l (cond (eqb c 1) (fused_products p n (factor_count p n)) [])) (sym (coefficient-by p n None is)) x);
  }

  -- ---- sums

  module _ (before after : List Bool) (e : (plan_at p n).on_left ≡ before ++ false ∷ after) where
    abbrev g : ℕ
    g = free_marks after

    abbrev d : ℕ
    d = length before

    loops_are : loop_count p n ≡ d + 1 + left_marks after + g
    loops_are =
        let a = ap length e in
        let b = length-append before (false ∷ after) in
        let c = marks-counted after in
        omega (arith, a, b, c)

    more : g < free_loop_count p n
    more =
        let a = ap free_marks e in
        let b = free-append before (false ∷ after) in
        omega (arith, a, b)

    none : left_marks after ≡ 0
    none = (after-shared p ok fused n inside before after e).1

    abbrev gone : ℕ
    gone = suc g - 1

    gone_back : g ≡ gone
    gone_back = omega arith

    scalar_allowed : (v : Label) → IsOneOf v (fused_values p n g)
        → FusedAllowed p kind.SumScalar (level_label p n d ∷ v ∷ []) (tree_label (UnderReduced n (suc g) d) Value ∷ [])
    scalar_allowed v y =
        let size = loops_are in
        let no = none in
        let m = more in
        let back : d ≡ loop_count p n - gone - 1 = omega (arith, size, no) in
        let b : ltb gone (free_loop_count p n) ≡ true = grind (arith, nat_tests, m) in
        let found : left_after g (plan_at p n).on_left ≡ left_marks after = ap (left_after g) e ∙ left-found before after in
        let same : left_after gone (plan_at p n).on_left ≡ 0 = ap (λ (i : ℕ). left_after i (plan_at p n).on_left) (sym gone_back) ∙ found ∙ no in
        let c : eqb (left_after gone (plan_at p n).on_left) 0 ≡ true = grind (arith, nat_tests, same) in
        record {
          holds = rw (is_there, b, c) refl;
          ins_are = (
            inl (ap (level_label p n) back),
            (subst (λ (i : ℕ). IsOneOf v (fused_values p n i)) gone_back y, tt),
          );
          outs_are =
              ap (λ (i : ℕ). tree_label (UnderReduced n (suc g) i) Value ∷ []) back
              ∙ ap (λ (i : ℕ). tree_label (UnderReduced n (suc i) (loop_count p n - gone - 1)) Value ∷ []) gone_back;
        }

    sum_allowed : SumAllowed (Fusing p) (fused_trees p n) (plan_at p n) (λ g d. level_label p n d ∷ []) (fused_values p n) before after
    sum_allowed = record {
      few = let no = none in omega (arith, no);
      stay = λ k l less x. x;
      scalar = λ l v z x y.
          fusing p _ _ _ (omega arith) refl
          (subst (λ (k : Label). FusedAllowed p kind.SumScalar (k ∷ v ∷ []) (tree_label (UnderReduced n (suc g) d) Value ∷ [])) (sym (level_of l d x))
          (scalar_allowed v y));
      vector = λ l v one x y. let no = none in absurd (omega (arith, no, one));
      matrix = λ k l v two x y z. let no = none in absurd (omega (arith, no, two));
      coordinate = λ k some deep. let no = none in absurd (omega (arith, no, some));
      value = λ k is. let l = loops_are in inl (ap (λ (i : ℕ). tree_label (UnderReduced n (suc g) i) Value) (omega (arith, is, l)));
    }
      where
        level_of : (l : Label) (k : ℕ) → IsOneOf l (level_labels (Fusing p) (fused_trees p n) (plan_at p n) (λ d. level_label p n d ∷ []) k) → l ≡ level_label p n k
        level_of l zero (inl y) = y
        level_of l zero (inr y) = absurd y
        level_of l (suc k) (inl y) = y
        level_of l (suc k) (inr y) = absurd y

  pub fused-sums-allowed : SumsAllowed (Fusing p) (fused_trees p n) (plan_at p n) (λ g d. level_label p n d ∷ []) (fused_values p n)
  fused-sums-allowed before after e = sum_allowed before after e

-- ---- what is dropped

pub fused-drops-allowed : (p : Program) (fused : is_fused p ≡ true)
    → DropsAllowed (Fusing p) (OfAll (last_term p)) (shared_levels p) (λ d. level_label p 0 d ∷ []) (values_upto p (last_term p))
fused-drops-allowed p fused = record {
  value = λ l v some x y. fusing p _ _ _ (omega arith) refl (record { holds = refl; ins_are = (x, (y, tt)); outs_are = refl });
  fiber = λ f l some less x.
      let a : ltb 0 f ≡ true = grind (arith, nat_tests, some) in
      let b : ltb f (shared_levels p) ≡ true = grind (arith, nat_tests, less) in
      fusing p _ _ _ (omega arith) refl (record { holds = rw (a, b) refl; ins_are = (x, (inl refl, tt)); outs_are = refl });
}
