-- A sum over variables depends on which they are, and not on their order.
use Rattle.std.specs.Prelude.{◌≡◌, ℕ, Bool, true, false, cond, not, ◌&&◌, ◌||◌, List, [], ◌∷◌, eqb, refl}
use Rattle.std.proofs.Common.{sym, ◌∙◌, ap, ap₂, subst}
use Rattle.std.proofs.lemmas.Bool.{and_parts, or_parts, not-true, eqb-true, eq-eqb}
use Rattle.std.specs.List.{filter}
use Rattle.sam_model.specs.Lists.{is_in}
use Rattle.sam_model.specs.Accepted.{distinct}
use Rattle.sam_model.specs.Expressions.{Tuple, Values, sum_for, sum_over}
use Rattle.sam_model.proofs.Lists.{and-false, and-true}
use Rattle.sam_model.proofs.Orders.{number_equality, is_in-filter}
use Rattle.expand.proofs.ValueLaws.{AreLawful}
use Rattle.expand.proofs.Over.{over-swapped}

pub distinct-filter : (test : ℕ → Bool) (ks : List ℕ) → distinct ks ≡ true → distinct (filter test ks) ≡ true
distinct-filter test [] h = refl
distinct-filter test (k ∷ ks) h =
    let e = and_parts (not (is_in k ks)) (distinct ks) h in by_case (test k) (not-true (is_in k ks) e.0) (distinct-filter test ks e.1)
  where
    by_case : (b : Bool) → is_in k ks ≡ false → distinct (filter test ks) ≡ true → distinct (cond b (k ∷ filter test ks) (filter test ks)) ≡ true
    by_case true apart rest = ap₂ (λ x y. not x && y) (is_in-filter test k ks ∙ ap (λ x. x && test k) apart) rest
    by_case false apart rest = rest

-- all but k
abbrev without : ℕ → List ℕ → List ℕ
without k ks = filter (λ j. not (eqb j k)) ks

without_none : (k : ℕ) (ks : List ℕ) → is_in k ks ≡ false → without k ks ≡ ks
without_none k [] h = refl
without_none k (j ∷ ks) h =
    let e = or_parts (eqb k j) (is_in k ks) h in
    ap (λ b. cond (not b) (j ∷ without k ks) (without k ks)) (number_equality.symm j k ∙ e.0) ∙ ap (λ (js : List ℕ). j ∷ js) (without_none k ks e.1)

module _ {R : Type 0} (o : Values R) (sizes : List ℕ) (laws : AreLawful o sizes) where
  -- any of the variables comes first
  to_front : (k : ℕ) (ks : List ℕ) (f : Tuple → R) (s : Tuple) → distinct ks ≡ true → is_in k ks ≡ true
      → sum_over o sizes ks f s ≡ sum_over o sizes (k ∷ without k ks) f s
  to_front k [] f s once here = absurd (cc)
  to_front k (j ∷ ks) f s once here =
      let e = and_parts (not (is_in j ks)) (distinct ks) once in
      by_case (eqb k j) refl here (not-true (is_in j ks) e.0) (λ h. to_front k ks (sum_for o sizes j f) s e.1 h)
    where
      by_case : (b : Bool) → eqb k j ≡ b → (b || is_in k ks) ≡ true → is_in j ks ≡ false
          → (is_in k ks ≡ true → sum_over o sizes ks (sum_for o sizes j f) s ≡ sum_over o sizes (k ∷ without k ks) (sum_for o sizes j f) s)
          → sum_over o sizes (j ∷ ks) f s ≡ sum_over o sizes (k ∷ without k (j ∷ ks)) f s
      by_case true same h apart later =
          let e : k ≡ j = eqb-true k j same in
          ap₂ (λ (i : ℕ) (is : List ℕ). sum_over o sizes (i ∷ is) f s) (sym e)
          (sym (ap (λ b. cond (not b) (j ∷ without k ks) (without k ks)) (number_equality.symm j k ∙ same)
          ∙ without_none k ks (subst (λ (i : ℕ). is_in i ks ≡ false) (sym e) apart)))
      by_case false other h apart later =
          later h ∙ over-swapped o sizes laws j k (without k ks) f s (number_equality.symm j k ∙ other)
          ∙ ap (λ (is : List ℕ). sum_over o sizes (k ∷ is) f s)
          (sym (ap (λ b. cond (not b) (j ∷ without k ks) (without k ks)) (number_equality.symm j k ∙ other)))

  -- the order of the variables doesn't matter
  pub same-sum : (ls ks : List ℕ) → distinct ls ≡ true → distinct ks ≡ true → ((j : ℕ) → is_in j ks ≡ is_in j ls) → (f : Tuple → R) (s : Tuple)
      → sum_over o sizes ks f s ≡ sum_over o sizes ls f s
  same-sum [] [] dl dk same f s = refl
  same-sum [] (k ∷ ks) dl dk same f s = let e : true ≡ false = ap (λ b. b || is_in k ks) (sym (eq-eqb k k refl)) ∙ same k in absurd (cc)
  same-sum (l ∷ ls) ks dl dk same f s =
      let e = and_parts (not (is_in l ls)) (distinct ls) dl in
      to_front l ks f s dk (same l ∙ ap (λ b. b || is_in l ls) (eq-eqb l l refl))
      ∙ same-sum ls (without l ks) e.1 (distinct-filter (λ i. not (eqb i l)) ks dk) (λ j. others (not-true (is_in l ls) e.0) j (eqb j l) refl) (sum_for o sizes l f) s
    where
      others : is_in l ls ≡ false → (j : ℕ) (b : Bool) → eqb j l ≡ b → is_in j (without l ks) ≡ is_in j ls
      others apart j true e =
          is_in-filter (λ i. not (eqb i l)) j ks ∙ ap (λ b. is_in j ks && not b) e ∙ and-false (is_in j ks)
          ∙ sym (subst (λ (i : ℕ). is_in i ls ≡ false) (sym (eqb-true j l e)) apart)
      others apart j false e =
          is_in-filter (λ i. not (eqb i l)) j ks ∙ ap (λ b. is_in j ks && not b) e ∙ and-true (is_in j ks) ∙ same j
          ∙ ap (λ b. b || is_in j ls) e
