-- Terms that count how often their signs were turned; the terms of an expression are these with signs by parity.
use Rattle.std.specs.Prelude.{◌≡◌, ℕ, zero, suc, ◌+◌, Bool, true, false, not, cond, List, [], ◌∷◌, ◌++◌, slice_index, refl}
use Rattle.std.specs.List.{flat_map, list_any}
use mathlib.Core.List.{map}
use Rattle.std.proofs.Common.{◌∙◌, ap, ap₂}
use Rattle.std.proofs.Math.Nat.{suc-add, zero-add}
use Rattle.std.proofs.lemmas.List.{map-append}
use Rattle.sam_model.specs.declared.program.Factor.{Factor}
use Rattle.sam_model.specs.declared.program.Factor.TheVariants as factor
use Rattle.sam_model.specs.declared.program.Term.{Term}
use Rattle.sam_model.specs.Trees.{ExprTree, Access, Literal, Times, Plus, Minus, Negate, Sum, TopTree}
use Rattle.sam_model.specs.Denote.{has_var}
use Rattle.sam_model.specs.Expressions.{turned_term, joined_term, summed_term, expanded, summed_over, with_sign, expanded_tops}

pub record Counted : Type 0 where
  pub minuses : ℕ
  pub factors : List Factor

-- whether some of these factors has a variable
abbrev pub factors_have : List Factor → ℕ → Bool
factors_have fs k = list_any (has_var k) fs

abbrev pub counted_turned : Counted → Counted
counted_turned t = record t { minuses = suc t.minuses }

abbrev pub counted_joined : Counted → Counted → Counted
counted_joined t u = record { minuses = t.minuses + u.minuses; factors = t.factors ++ u.factors }

module _ (sizes : List ℕ) where
  abbrev pub counted_summed : ℕ → Counted → Counted
  counted_summed k t = cond (factors_have t.factors k) t (record t { factors = t.factors ++ factor.Literal (slice_index sizes k) ∷ [] })

  abbrev pub counted : ExprTree → List Counted
  counted (Access n vars) = record { minuses = 0; factors = factor.Access n vars ∷ [] } ∷ []
  counted (Literal n) = record { minuses = 0; factors = factor.Literal n ∷ [] } ∷ []
  counted (Times a b) = flat_map (λ t. map (counted_joined t) (counted b)) (counted a)
  counted (Plus a b) = counted a ++ counted b
  counted (Minus a b) = counted a ++ map counted_turned (counted b)
  counted (Negate a) = map counted_turned (counted a)
  counted (Sum k a) = map (counted_summed k) (counted a)

  abbrev pub counted_over : List ℕ → List Counted → List Counted
  counted_over [] ts = ts
  counted_over (k ∷ ks) ts = counted_over ks (map (counted_summed k) ts)

  abbrev pub counted_sign : Bool → List Counted → List Counted
  counted_sign minus ts = cond minus (map counted_turned ts) ts

  abbrev pub counted_top : TopTree → List Counted
  counted_top t = counted_sign t.minus (counted_over t.implied (counted t.body))

-- ---- signs by parity

abbrev pub is_odd : ℕ → Bool
is_odd zero = false
is_odd (suc n) = not (is_odd n)

abbrev pub as_term : Counted → Term
as_term t = record { minus = is_odd t.minuses; factors = t.factors }

not_twice : (b : Bool) → not (not b) ≡ b
not_twice true = refl
not_twice false = refl

odd_add : (m n : ℕ) → is_odd (m + n) ≡ cond (is_odd m) (not (is_odd n)) (is_odd n)
odd_add zero n = ap is_odd (zero-add n)
odd_add (suc m) n = ap is_odd (suc-add m n) ∙ ap not (odd_add m n) ∙ by_case (is_odd m)
  where
    by_case : (b : Bool) → not (cond b (not (is_odd n)) (is_odd n)) ≡ cond (not b) (not (is_odd n)) (is_odd n)
    by_case true = not_twice (is_odd n)
    by_case false = refl

map_through : {A B C D : Type 0} (f : A → B) (g : B → D) (h : A → C) (k : C → D) → ((x : A) → g (f x) ≡ k (h x)) → (xs : List A)
    → map g (map f xs) ≡ map k (map h xs)
map_through f g h k e [] = refl
map_through {D = D} f g h k e (x ∷ xs) = ap₂ (λ (y : D) (ys : List D). y ∷ ys) (e x) (map_through f g h k e xs)

turned_as : (t : Counted) → as_term (counted_turned t) ≡ turned_term (as_term t)
turned_as t = refl

joined_as : (t u : Counted) → as_term (counted_joined t u) ≡ joined_term (as_term t) (as_term u)
joined_as t u = ap (λ (b : Bool). let x : Term = record { minus = b; factors = t.factors ++ u.factors } in x) (odd_add t.minuses u.minuses)

row_as : (t : Counted) (us : List Counted) → map as_term (map (counted_joined t) us) ≡ map (joined_term (as_term t)) (map as_term us)
row_as t us = map_through (counted_joined t) as_term as_term (joined_term (as_term t)) (joined_as t) us

products_as : (ts us : List Counted)
    → map as_term (flat_map (λ t. map (counted_joined t) us) ts) ≡ flat_map (λ t. map (joined_term t) (map as_term us)) (map as_term ts)
products_as [] us = refl
products_as (t ∷ ts) us =
    map-append as_term (map (counted_joined t) us) (flat_map (λ t. map (counted_joined t) us) ts)
    ∙ ap₂ (λ (xs ys : List Term). xs ++ ys) (row_as t us) (products_as ts us)

turned_all : (ts : List Counted) → map as_term (map counted_turned ts) ≡ map turned_term (map as_term ts)
turned_all ts = map_through counted_turned as_term as_term turned_term turned_as ts

module _ (sizes : List ℕ) where
  summed_as : (k : ℕ) (t : Counted) → as_term (counted_summed sizes k t) ≡ summed_term sizes k (as_term t)
  summed_as k t = by_case (factors_have t.factors k)
    where
      longer : List Factor
      longer = t.factors ++ factor.Literal (slice_index sizes k) ∷ []

      by_case : (b : Bool) → as_term (cond b t (record t { factors = longer })) ≡ cond b (as_term t) (record (as_term t) { factors = longer })
      by_case true = refl
      by_case false = refl

  summed_all : (k : ℕ) (ts : List Counted) → map as_term (map (counted_summed sizes k) ts) ≡ map (summed_term sizes k) (map as_term ts)
  summed_all k ts = map_through (counted_summed sizes k) as_term as_term (summed_term sizes k) (summed_as k) ts

  pub as-expanded : (e : ExprTree) → map as_term (counted sizes e) ≡ expanded sizes e
  as-expanded (Access n vars) = refl
  as-expanded (Literal n) = refl
  as-expanded (Times a b) =
      products_as (counted sizes a) (counted sizes b)
      ∙ ap₂ (λ (ts us : List Term). flat_map (λ t. map (joined_term t) us) ts) (as-expanded a) (as-expanded b)
  as-expanded (Plus a b) =
      map-append as_term (counted sizes a) (counted sizes b) ∙ ap₂ (λ (xs ys : List Term). xs ++ ys) (as-expanded a) (as-expanded b)
  as-expanded (Minus a b) =
      map-append as_term (counted sizes a) (map counted_turned (counted sizes b))
      ∙ ap₂ (λ (xs ys : List Term). xs ++ ys) (as-expanded a) (turned_all (counted sizes b) ∙ ap (map turned_term) (as-expanded b))
  as-expanded (Negate a) = turned_all (counted sizes a) ∙ ap (map turned_term) (as-expanded a)
  as-expanded (Sum k a) = summed_all k (counted sizes a) ∙ ap (map (summed_term sizes k)) (as-expanded a)

  over_as : (ks : List ℕ) (ts : List Counted) → map as_term (counted_over sizes ks ts) ≡ summed_over sizes ks (map as_term ts)
  over_as [] ts = refl
  over_as (k ∷ ks) ts = over_as ks (map (counted_summed sizes k) ts) ∙ ap (summed_over sizes ks) (summed_all k ts)

  sign_as : (minus : Bool) (ts : List Counted) → map as_term (counted_sign sizes minus ts) ≡ with_sign sizes minus (map as_term ts)
  sign_as true ts = turned_all ts
  sign_as false ts = refl

  top_as : (t : TopTree) → map as_term (counted_top sizes t) ≡ with_sign sizes t.minus (summed_over sizes t.implied (expanded sizes t.body))
  top_as t =
      sign_as t.minus (counted_over sizes t.implied (counted sizes t.body))
      ∙ ap (with_sign sizes t.minus) (over_as t.implied (counted sizes t.body) ∙ ap (summed_over sizes t.implied) (as-expanded t.body))

  pub as-expanded_tops : (tops : List TopTree) → map as_term (flat_map (counted_top sizes) tops) ≡ expanded_tops sizes tops
  as-expanded_tops [] = refl
  as-expanded_tops (t ∷ tops) =
      map-append as_term (counted_top sizes t) (flat_map (counted_top sizes) tops)
      ∙ ap₂ (λ (xs ys : List Term). xs ++ ys) (top_as t) (as-expanded_tops tops)
