-- A loop that changes each item of a list in its place.
use Rattle.std.specs.Prelude.{◌≡◌, ◌<◌, Bool, true, false, ◌||◌, ℕ, zero, suc, ◌+◌, List, [], ◌∷◌, ◌++◌, length, take, drop, set, get_or, refl}
use Rattle.std.specs.List.{list_any}
use mathlib.Core.List.{map}
use Rattle.std.proofs.Common.{arith, ◌∙◌, ap, ap₂, subst}
use Rattle.std.proofs.lemmas.Bool.{or_parts, or_right}

module _ {A : Type 0} (f : A → A) where
  -- the first i items are changed, and the rest isn't yet
  abbrev pub partly : ℕ → List A → List A
  partly i xs = map f (take i xs) ++ drop i xs

  one_more : (xs : List A) (i : ℕ) (d : A) → i < length (partly i xs) → set (partly i xs) i (f (get_or (partly i xs) i d)) ≡ partly (suc i) xs
  one_more [] zero d h = absurd (omega (arith, h))
  one_more [] (suc i) d h = absurd (omega (arith, h))
  one_more (x ∷ xs) zero d h = refl
  one_more (x ∷ xs) (suc i) d h = ap (λ (ys : List A). f x ∷ ys) (one_more xs i d (omega (arith, h)))

  next_at : (xs : List A) (i : ℕ) (d : A) → i < length (partly i xs) → (i < length xs) × (get_or (partly i xs) i d ≡ get_or xs i d)
  next_at [] zero d h = absurd (omega (arith, h))
  next_at [] (suc i) d h = absurd (omega (arith, h))
  next_at (x ∷ xs) zero d h = (omega arith, refl)
  next_at (x ∷ xs) (suc i) d h = let r = next_at xs i d (omega (arith, h)) in (omega (arith, r.0), r.1)

  none_next : (test : A → Bool) (xs : List A) (i : ℕ) (d : A) → i < length xs → test (f (get_or xs i d)) ≡ false → list_any test (map f (take i xs)) ≡ false
      → list_any test (map f (take (suc i) xs)) ≡ false
  none_next test [] i d h one none = absurd (omega (arith, h))
  none_next test (x ∷ xs) zero d h one none = ap (λ b. b || false) one
  none_next test (x ∷ xs) (suc i) d h one none =
      let e = or_parts (test (f x)) (list_any test (map f (take i xs))) none in
      ap₂ (λ a b. a || b) e.0 (none_next test xs i d (omega (arith, h)) one e.1)

  pub partly-more : (xs ys : List A) (i : ℕ) (d : A) → i < length ys → ys ≡ partly i xs → set ys i (f (get_or ys i d)) ≡ partly (i + 1) xs
  partly-more xs ys i d h e =
      let less : i < length (partly i xs) = subst (λ (zs : List A). i < length zs) e h in
      let next : suc i ≡ i + 1 = omega arith in
      ap (λ (zs : List A). set zs i (f (get_or zs i d))) e ∙ one_more xs i d less ∙ ap (λ (n : ℕ). partly n xs) next

  -- the item that comes next isn't changed yet
  pub partly-at : (xs ys : List A) (i : ℕ) (d : A) → i < length ys → ys ≡ partly i xs → (i < length xs) × (get_or ys i d ≡ get_or xs i d)
  partly-at xs ys i d h e =
      let less : i < length (partly i xs) = subst (λ (zs : List A). i < length zs) e h in
      let at = next_at xs i d less in
      (at.0, ap (λ (zs : List A). get_or zs i d) e ∙ at.1)

  module _ (test : A → Bool) where
    -- what none passes so far, one more doesn't pass
    pub none-more : (xs : List A) (i : ℕ) (d : A) → i < length xs → test (f (get_or xs i d)) ≡ false → list_any test (map f (take i xs)) ≡ false
        → list_any test (map f (take (i + 1) xs)) ≡ false
    none-more xs i d h one none = ap (λ (n : ℕ). list_any test (map f (take n xs))) (plus_one i) ∙ none_next test xs i d h one none
      where
        plus_one : (i : ℕ) → i + 1 ≡ suc i
        plus_one i = omega arith

    -- what one passes, some pass
    pub some-at : (xs : List A) (i : ℕ) (d : A) → i < length xs → test (f (get_or xs i d)) ≡ true → list_any test (map f xs) ≡ true
    some-at [] i d h e = absurd (omega (arith, h))
    some-at (x ∷ xs) zero d h e = ap (λ b. b || list_any test (map f xs)) e
    some-at (x ∷ xs) (suc i) d h e = or_right (test (f x)) (list_any test (map f xs)) (some-at xs i d (omega (arith, h)) e)

-- what none passes, no item passes
pub none-at : {A : Type 0} (test : A → Bool) (xs : List A) (i : ℕ) (d : A) → i < length xs → list_any test xs ≡ false → test (get_or xs i d) ≡ false
none-at test [] i d h e = absurd (omega (arith, h))
none-at test (x ∷ xs) zero d h e = (or_parts (test x) (list_any test xs) e).0
none-at test (x ∷ xs) (suc i) d h e = none-at test xs i d (omega (arith, h)) (or_parts (test x) (list_any test xs) e).1
