-- The test of two lists of terms tells whether they are equal.
use Rattle.std.specs.Prelude.{◌≡◌, ℕ, Bool, true, false, List, [], ◌∷◌, eqb, refl}
use Rattle.std.specs.Bool.{beq}
use Rattle.std.proofs.Common.{ap, ap₂}
use Rattle.std.proofs.lemmas.Bool.{and_parts, eq-eqb, eqb-true}
use Rattle.sam_model.specs.declared.program.Factor.{Factor}
use Rattle.sam_model.specs.declared.program.Factor.TheVariants.{Access, Literal}
use Rattle.sam_model.specs.declared.program.Term.{Term}
use Rattle.sam_model.specs.Lists.{same_list}
use Rattle.sam_model.specs.Program.{same_factor, same_factors, same_term, same_terms}
use Rattle.sam_model.proofs.Orders.{same_list-self, same_list-true}

beq-self : (b : Bool) → beq b b ≡ true
beq-self true = refl
beq-self false = refl

beq-true : (a b : Bool) → beq a b ≡ true → a ≡ b
beq-true true true e = refl
beq-true true false e = absurd (cc)
beq-true false true e = absurd (cc)
beq-true false false e = refl

same_factors-self : (fs : List Factor) → same_factors fs fs ≡ true
same_factors-self [] = refl
same_factors-self (Access n vars ∷ fs) = rw (eq-eqb n n refl) (rw (same_list-self vars) (same_factors-self fs))
same_factors-self (Literal n ∷ fs) = rw (eq-eqb n n refl) (same_factors-self fs)

pub same_terms-self : (ts : List Term) → same_terms ts ts ≡ true
same_terms-self [] = refl
same_terms-self (t ∷ ts) = rw (beq-self t.minus) (rw (same_factors-self t.factors) (same_terms-self ts))

same_factor-true : (f g : Factor) → same_factor f g ≡ true → f ≡ g
same_factor-true (Access m vars) (Access n others) e =
    let both = and_parts (eqb m n) (same_list vars others) e in ap₂ (λ (k : ℕ) (vs : List ℕ). Access k vs) (eqb-true m n both.0) (same_list-true vars others both.1)
same_factor-true (Access m vars) (Literal n) e = absurd (cc)
same_factor-true (Literal m) (Access n others) e = absurd (cc)
same_factor-true (Literal m) (Literal n) e = ap (λ (k : ℕ). Literal k) (eqb-true m n e)

same_factors-true : (fs gs : List Factor) → same_factors fs gs ≡ true → fs ≡ gs
same_factors-true [] [] e = refl
same_factors-true [] (g ∷ gs) e = absurd (cc)
same_factors-true (f ∷ fs) [] e = absurd (cc)
same_factors-true (f ∷ fs) (g ∷ gs) e =
    let both = and_parts (same_factor f g) (same_factors fs gs) e in
    ap₂ (λ (x : Factor) (xs : List Factor). x ∷ xs) (same_factor-true f g both.0) (same_factors-true fs gs both.1)

same_term-true : (t u : Term) → same_term t u ≡ true → t ≡ u
same_term-true t u e =
    let both = and_parts (beq t.minus u.minus) (same_factors t.factors u.factors) e in
    ap₂ made (beq-true t.minus u.minus both.0) (same_factors-true t.factors u.factors both.1)
  where
    made : Bool → List Factor → Term
    made m fs = record { minus = m; factors = fs }

pub same_terms-true : (ts us : List Term) → same_terms ts us ≡ true → ts ≡ us
same_terms-true [] [] e = refl
same_terms-true [] (u ∷ us) e = absurd (cc)
same_terms-true (t ∷ ts) [] e = absurd (cc)
same_terms-true (t ∷ ts) (u ∷ us) e =
    let both = and_parts (same_term t u) (same_terms ts us) e in
    ap₂ (λ (x : Term) (xs : List Term). x ∷ xs) (same_term-true t u both.0) (same_terms-true ts us both.1)
