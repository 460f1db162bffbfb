-- The terms of what fits a left side are summed over their own variables that aren't on the left.
use Rattle.std.specs.Prelude.{◌≡◌, ◌<◌, ◌⊎◌, ℕ, Bool, true, false, not, ◌&&◌, ◌||◌, List, [], ◌∷◌, ◌++◌, length, eqb, refl}
use Rattle.std.specs.List.{filter, flat_map}
use Rattle.std.proofs.Common.{arith, sym, ◌∙◌, ap, ap₂, subst, inl, inr}
use Rattle.std.proofs.lemmas.Bool.{and_parts, and_from, or_cases, not-true, eqb-true}
use Rattle.sam_base.specs.Each.{Each}
use Rattle.sam_model.specs.Trees.{TopTree}
use Rattle.sam_model.specs.Lists.{below, is_in}
use Rattle.sam_model.specs.Accepted.{distinct}
use Rattle.sam_model.specs.Expressions.{Tuple, Values, negative_if, sum_over, expr_value, tops_value}
use Rattle.sam_model.proofs.Lists.{same-test, Each-range}
use Rattle.sam_model.proofs.Orders.{is_in-filter, is_in-range, Rises-range}
use Rattle.sam_model.specs.Scopes.{bound_vars, used_vars, implied_of}
use Rattle.expand.proofs.ValueLaws.{AreLawful, turned_times}
use Rattle.expand.proofs.Over.{over-same}
use Rattle.expand.proofs.Counted.{Counted, factors_have, counted, counted_over, counted_top}
use Rattle.expand.proofs.Factors.{factors_value}
use Rattle.expand.proofs.Expanded.{Within, own, is_in-append, within-top, over_value, counted_values, values-sign, keeps-values, keeps-over}
use Rattle.expand.proofs.Order.{distinct-filter, same-sum}
use Rattle.expand.proofs.Tuples.{gathered, gathered-append, not_left}
use Rattle.expand.proofs.Scoped.{Fits, Rises-distinct, distinct-append, scoped}

-- the variables of a term, in loop order
abbrev pub loops : ℕ → Counted → List ℕ
loops count c = filter (factors_have c.factors) (below count)

pub loops-distinct : (count : ℕ) (c : Counted) → distinct (loops count c) ≡ true
loops-distinct count c = Rises-distinct 0 (loops count c) (Rises-range (factors_have c.factors) 0 count)

each_member : (Q : ℕ → Type 0) (ks : List ℕ) (k : ℕ) → Each Q ks → is_in k ks ≡ true → Q k
each_member Q [] k e h = absurd (cc)
each_member Q (j ∷ ks) k e h = by_case (or_cases (eqb k j) (is_in k ks) h) (each_member Q ks k e.1)
  where
    by_case : (eqb k j ≡ true) ⊎ (is_in k ks ≡ true) → (is_in k ks ≡ true → Q k) → Q k
    by_case (inl same) later = subst Q (sym (eqb-true k j same)) e.0
    by_case (inr more) later = later more

below_less : (count k : ℕ) → is_in k (below count) ≡ true → k < count
below_less count k h = each_member (λ c. c < count) (below count) k (Each-range 0 count count (omega arith)) h

in_below : (count k : ℕ) → k < count → is_in k (below count) ≡ true
in_below count k h = is_in-range count 0 k (omega arith) (omega (arith, h))

module _ (count : ℕ) (left : List ℕ) (t : TopTree) (fit : Fits count left t) where
  -- the variables that its terms are summed over
  abbrev summed_vars : List ℕ
  summed_vars = bound_vars t.body ++ t.implied

  in_implied : (k : ℕ) → is_in k t.implied ≡ (is_in k (below count) && (is_in k (used_vars t.body) && (not (is_in k left) && not (is_in k (bound_vars t.body)))))
  in_implied k =
      ap (is_in k) fit.implied
      ∙ is_in-filter (λ v. is_in v (used_vars t.body) && (not (is_in v left) && not (is_in v (bound_vars t.body)))) k (below count)

  -- an implied variable is neither bound nor on the left
  record IsImplied (k : ℕ) : Type 0 where
    inside : is_in k (below count) ≡ true
    off_left : is_in k left ≡ false
    unbound : is_in k (bound_vars t.body) ≡ false

  is_implied : (k : ℕ) → is_in k t.implied ≡ true → IsImplied k
  is_implied k h =
      let a = and_parts (is_in k (below count)) (is_in k (used_vars t.body) && (not (is_in k left) && not (is_in k (bound_vars t.body)))) (sym (in_implied k) ∙ h) in
      let b = and_parts (is_in k (used_vars t.body)) (not (is_in k left) && not (is_in k (bound_vars t.body))) a.1 in
      let c = and_parts (not (is_in k left)) (not (is_in k (bound_vars t.body))) b.1 in
      record { inside = a.0; off_left = not-true (is_in k left) c.0; unbound = not-true (is_in k (bound_vars t.body)) c.1 }

  summed_distinct : distinct summed_vars ≡ true
  summed_distinct =
      distinct-append (bound_vars t.body) t.implied fit.sums.once
      (ap distinct fit.implied
      ∙ Rises-distinct 0 (implied_of count left t.body)
      (Rises-range (λ v. is_in v (used_vars t.body) && (not (is_in v left) && not (is_in v (bound_vars t.body)))) 0 count))
      (λ k h. by_case k h (is_in k t.implied) refl)
    where
      by_case : (k : ℕ) → is_in k (bound_vars t.body) ≡ true → (b : Bool) → is_in k t.implied ≡ b → b ≡ false
      by_case k h true e = sym h ∙ (is_implied k e).unbound
      by_case k h false e = refl

  -- a term's bound and implied variables are its loops that aren't on the left
  own_loops : (c : Counted) → Within (used_vars t.body) c → (k : ℕ) → is_in k (own summed_vars c) ≡ is_in k (not_left (λ v. is_in v left) (loops count c))
  own_loops c within k =
      is_in-filter (factors_have c.factors) k summed_vars
      ∙ same-test (is_in k summed_vars && factors_have c.factors k) ((is_in k (below count) && factors_have c.factors k) && not (is_in k left)) forth back
      ∙ sym
      (is_in-filter (λ v. not (is_in v left)) k (loops count c) ∙ ap (λ b. b && not (is_in k left)) (is_in-filter (factors_have c.factors) k (below count)))
    where
      forth : (is_in k summed_vars && factors_have c.factors k) ≡ true → ((is_in k (below count) && factors_have c.factors k) && not (is_in k left)) ≡ true
      forth h =
          let e = and_parts (is_in k summed_vars) (factors_have c.factors k) h in
          by_case e.1 (or_cases (is_in k (bound_vars t.body)) (is_in k t.implied) (sym (is_in-append k (bound_vars t.body) t.implied) ∙ e.0))
        where
          all : is_in k (below count) ≡ true → factors_have c.factors k ≡ true → is_in k left ≡ false
              → ((is_in k (below count) && factors_have c.factors k) && not (is_in k left)) ≡ true
          all a b d = ap₂ (λ x y. x && not y) (ap₂ (λ x y. x && y) a b) d

          by_case : factors_have c.factors k ≡ true → (is_in k (bound_vars t.body) ≡ true) ⊎ (is_in k t.implied ≡ true)
              → ((is_in k (below count) && factors_have c.factors k) && not (is_in k left)) ≡ true
          by_case has (inl e) = all (in_below count k (fit.sums.in_range k e)) has (fit.off_left k e)
          by_case has (inr e) = all (is_implied k e).inside has (is_implied k e).off_left

      back : ((is_in k (below count) && factors_have c.factors k) && not (is_in k left)) ≡ true → (is_in k summed_vars && factors_have c.factors k) ≡ true
      back h =
          let e = and_parts (is_in k (below count) && factors_have c.factors k) (not (is_in k left)) h in
          let d = and_parts (is_in k (below count)) (factors_have c.factors k) e.0 in
          and_from (is_in k summed_vars) (factors_have c.factors k)
          (is_in-append k (bound_vars t.body) t.implied ∙ by_case d.0 d.1 e.1 (is_in k (bound_vars t.body)) refl) d.1
        where
          by_case : is_in k (below count) ≡ true → factors_have c.factors k ≡ true → not (is_in k left) ≡ true
              → (b : Bool) → is_in k (bound_vars t.body) ≡ b → (b || is_in k t.implied) ≡ true
          by_case inside has off true e = refl
          by_case inside has off false e =
              in_implied k
              ∙ ap₂ (λ x y. x && y) inside (ap₂ (λ x y. x && y) (within k has) (ap₂ (λ x y. x && y) off (ap not e)))

module _ {R : Type 0} (o : Values R) (sizes : List ℕ) (access : ℕ → List ℕ → R) (laws : AreLawful o sizes) (left : List ℕ) where
  -- a term's value, summed over its loops that aren't on the left
  abbrev pub own_value : Counted → Tuple → R
  own_value c s = over_value o sizes access (not_left (λ v. is_in v left) (loops (length sizes) c)) c s

  values_own : (t : TopTree) (fit : Fits (length sizes) left t) (cs : List Counted) → Each (Within (used_vars t.body)) cs → (s : Tuple)
      → counted_values o sizes access (summed_vars (length sizes) left t fit) cs s ≡ gathered o (λ c. own_value c s) cs
  values_own t fit [] w s = refl
  values_own t fit (c ∷ cs) w s =
      ap₂ o.add
      (ap (turned_times o c.minuses)
      (same-sum o sizes laws (not_left (λ v. is_in v left) (loops (length sizes) c)) (own (summed_vars (length sizes) left t fit) c)
      (distinct-filter (λ v. not (is_in v left)) (loops (length sizes) c) (loops-distinct (length sizes) c))
      (distinct-filter (factors_have c.factors) (summed_vars (length sizes) left t fit) (summed_distinct (length sizes) left t fit))
      (own_loops (length sizes) left t fit c w.0) (factors_value o access c.factors) s))
      (values_own t fit cs w.1 s)

  top_value : (t : TopTree) → Fits (length sizes) left t → (s : Tuple)
      → negative_if o t.minus (sum_over o sizes t.implied (expr_value o sizes access t.body) s) ≡ gathered o (λ c. own_value c s) (counted_top sizes t)
  top_value t fit s =
      ap (negative_if o t.minus)
      (over-same o sizes t.implied (expr_value o sizes access t.body) (counted_values o sizes access (bound_vars t.body) (counted sizes t.body))
      (keeps-values o sizes access laws t.body (scoped (length sizes) t.body fit.sums)) s
      ∙ keeps-over o sizes access laws t.implied
      (λ j h. below_less (length sizes) j (is_implied (length sizes) left t fit j h).inside) (bound_vars t.body) (counted sizes t.body) s)
      ∙ values-sign o sizes access laws t.minus (summed_vars (length sizes) left t fit) (counted_over sizes t.implied (counted sizes t.body)) s
      ∙ values_own t fit (counted_top sizes t) (within-top sizes t) s

  -- the value of a statement is that of its terms, each summed over its loops that aren't on the left
  pub tops-value : (tops : List TopTree) → Each (Fits (length sizes) left) tops → (s : Tuple)
      → tops_value o sizes access tops s ≡ gathered o (λ c. own_value c s) (flat_map (counted_top sizes) tops)
  tops-value [] e s = refl
  tops-value (t ∷ tops) e s =
      ap₂ o.add (top_value t e.0 s) (tops-value tops e.1 s)
      ∙ sym (gathered-append o sizes laws (λ c. own_value c s) (counted_top sizes t) (flat_map (counted_top sizes) tops))
