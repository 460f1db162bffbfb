-- Products of factors at a tuple, and the variables that they look at.
use Rattle.std.specs.Prelude.{◌≡◌, ℕ, true, false, cond, List, [], ◌∷◌, ◌++◌, eqb, refl}
use mathlib.Core.List.{map}
use Rattle.std.proofs.Common.{sym, ◌∙◌, ap, ap₂}
use Rattle.std.proofs.lemmas.Bool.{or_parts, or_left, or_right, eq-eqb}
use Rattle.sam_model.specs.declared.program.Factor.{Factor}
use Rattle.sam_model.specs.declared.program.Factor.TheVariants.{Access, Literal}
use Rattle.sam_model.specs.Lists.{is_in}
use Rattle.sam_model.specs.Denote.{has_var}
use Rattle.sam_model.specs.Expressions.{Tuple, with_at, Values}
use Rattle.sam_model.proofs.Orders.{number_equality}
use Rattle.expand.proofs.ValueLaws.{AreLawful}
use Rattle.expand.proofs.Over.{IsFree}
use Rattle.expand.proofs.Counted.{factors_have}

module _ {R : Type 0} (o : Values R) (access : ℕ → List ℕ → R) where
  abbrev pub factor_value : Factor → Tuple → R
  factor_value (Access n vars) s = access n (map s vars)
  factor_value (Literal n) s = o.literal n

  abbrev pub factors_value : List Factor → Tuple → R
  factors_value [] s = o.one
  factors_value (f ∷ fs) s = o.mul (factor_value f s) (factors_value fs s)

  map_free : (k : ℕ) (vars : List ℕ) → is_in k vars ≡ false → (s : Tuple) (v : ℕ) → map (with_at s k v) vars ≡ map s vars
  map_free k [] h s v = refl
  map_free k (w ∷ vars) h s v =
      let e = or_parts (eqb k w) (is_in k vars) h in
      ap₂ (λ (x : ℕ) (xs : List ℕ). x ∷ xs) (ap (λ b. cond b v (s w)) (number_equality.symm w k ∙ e.0)) (map_free k vars e.1 s v)

  factor_free : (k : ℕ) (f : Factor) → has_var k f ≡ false → IsFree k (factor_value f)
  factor_free k (Access n vars) h s v = ap (access n) (map_free k vars h s v)
  factor_free k (Literal n) h s v = refl

  -- a product doesn't look at a variable that none of its factors has
  pub factors-free : (k : ℕ) (fs : List Factor) → factors_have fs k ≡ false → IsFree k (factors_value fs)
  factors-free k [] h s v = refl
  factors-free k (f ∷ fs) h s v =
      let e = or_parts (has_var k f) (factors_have fs k) h in ap₂ o.mul (factor_free k f e.0 s v) (factors-free k fs e.1 s v)

  map_looks : (vars : List ℕ) (s u : Tuple) → ((v : ℕ) → is_in v vars ≡ true → s v ≡ u v) → map s vars ≡ map u vars
  map_looks [] s u h = refl
  map_looks (w ∷ vars) s u h =
      ap₂ (λ (x : ℕ) (xs : List ℕ). x ∷ xs) (h w (or_left (eqb w w) (is_in w vars) (eq-eqb w w refl)))
      (map_looks vars s u (λ v e. h v (or_right (eqb v w) (is_in v vars) e)))

  factor_looks : (f : Factor) (s u : Tuple) → ((v : ℕ) → has_var v f ≡ true → s v ≡ u v) → factor_value f s ≡ factor_value f u
  factor_looks (Access n vars) s u h = ap (access n) (map_looks vars s u h)
  factor_looks (Literal n) s u h = refl

  -- a product looks at the variables of its factors alone
  pub factors-looks : (fs : List Factor) (s u : Tuple) → ((v : ℕ) → factors_have fs v ≡ true → s v ≡ u v) → factors_value fs s ≡ factors_value fs u
  factors-looks [] s u h = refl
  factors-looks (f ∷ fs) s u h =
      ap₂ o.mul (factor_looks f s u (λ v e. h v (or_left (has_var v f) (factors_have fs v) e)))
      (factors-looks fs s u (λ v e. h v (or_right (has_var v f) (factors_have fs v) e)))

  module _ (sizes : List ℕ) (laws : AreLawful o sizes) where
    pub factors-append : (fs gs : List Factor) (s : Tuple) → factors_value (fs ++ gs) s ≡ o.mul (factors_value fs s) (factors_value gs s)
    factors-append [] gs s = sym (laws.one_mul (factors_value gs s))
    factors-append (f ∷ fs) gs s =
        ap (o.mul (factor_value f s)) (factors-append fs gs s) ∙ sym (laws.mul_assoc (factor_value f s) (factors_value fs s) (factors_value gs s))
