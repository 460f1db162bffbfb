-- Laws of tests, maps and filters.
use Rattle.std.specs.Prelude.{◌≡◌, ◌<◌, ℕ, zero, suc, ◌+◌, Bool, true, false, cond, ◌&&◌, ◌||◌, List, [], ◌∷◌, ◌++◌, refl}
use Rattle.std.specs.List.{flat_map, filter, list_any, range_with_len}
use mathlib.Core.List.{map}
use Rattle.std.proofs.Common.{arith, sym, ◌∙◌, ap}
use Rattle.std.proofs.lemmas.Bool.{or_right}
use Rattle.std.proofs.lemmas.Grind.{flat_map-append}
use Rattle.std.proofs.lemmas.List.{map-append}
use Rattle.std.proofs.lemmas.List.Elements.{filter-append}
use Rattle.std.proofs.lemmas.List.Folds.{list_any-append}
use Rattle.sam_base.specs.Each.{Each}

-- ---- tests

pub and-false : (a : Bool) → (a && false) ≡ false
and-false true = refl
and-false false = refl

pub and-true : (a : Bool) → (a && true) ≡ a
and-true true = refl
and-true false = refl

pub or-false : (a : Bool) → (a || false) ≡ a
or-false true = refl
or-false false = refl

-- two tests are equal, where each is true when the other is
pub same-test : (a b : Bool) → (a ≡ true → b ≡ true) → (b ≡ true → a ≡ true) → a ≡ b
same-test true b h k = sym (h refl)
same-test false true h k = k refl
same-test false false h k = refl

-- what isn't true is false
pub not-true : (a : Bool) → (a ≡ true → false ≡ true) → a ≡ false
not-true true h = sym (h refl)
not-true false h = refl

-- ---- each item

pub Each-always : {A : Type 0} (Q : A → Type 0) → ((x : A) → Q x) → (xs : List A) → Each Q xs
Each-always Q h [] = tt
Each-always Q h (x ∷ xs) = (h x, Each-always Q h xs)

pub Each-map : {A B : Type 0} (Q : B → Type 0) (f : A → B) (P : A → Type 0) → ((x : A) → P x → Q (f x)) → (xs : List A) → Each P xs → Each Q (map f xs)
Each-map Q f P h [] e = tt
Each-map Q f P h (x ∷ xs) e = (h x e.0, Each-map Q f P h xs e.1)

pub Each-append : {A : Type 0} (Q : A → Type 0) (xs ys : List A) → Each Q xs → Each Q ys → Each Q (xs ++ ys)
Each-append Q [] ys h k = k
Each-append Q (x ∷ xs) ys h k = (h.0, Each-append Q xs ys h.1 k)

pub Each-flat_map : {A B : Type 0} (P : A → Type 0) (Q : B → Type 0) (f : A → List B) → ((x : A) → P x → Each Q (f x)) → (xs : List A) → Each P xs
    → Each Q (flat_map f xs)
Each-flat_map P Q f h [] e = tt
Each-flat_map P Q f h (x ∷ xs) e = Each-append Q (f x) (flat_map f xs) (h x e.0) (Each-flat_map P Q f h xs e.1)

pub Each-range : (a n m : ℕ) → a + n ≡ m → Each (λ c. c < m) (range_with_len a n)
Each-range a zero m e = tt
Each-range a (suc n) m e = (omega arith, Each-range (a + 1) n m (omega arith))

pub map-ext : {A B : Type 0} (f g : A → B) → ((x : A) → f x ≡ g x) → (xs : List A) → map f xs ≡ map g xs
map-ext f g h [] = refl
map-ext f g h (x ∷ xs) = rw (h x, map-ext f g h xs) refl

pub map-ext-each : {A B : Type 0} (Q : A → Type 0) (f g : A → B) → ((x : A) → Q x → f x ≡ g x) → (xs : List A) → Each Q xs → map f xs ≡ map g xs
map-ext-each Q f g h [] e = refl
map-ext-each Q f g h (x ∷ xs) e = rw (h x e.0, map-ext-each Q f g h xs e.1) refl

pub flat_map-ext : {A B : Type 0} (f g : A → List B) → ((x : A) → f x ≡ g x) → (xs : List A) → flat_map f xs ≡ flat_map g xs
flat_map-ext f g h [] = refl
flat_map-ext f g h (x ∷ xs) = rw (h x, flat_map-ext f g h xs) refl

pub map-flat_map : {A B C : Type 0} (f : B → C) (g : A → List B) (xs : List A) → map f (flat_map g xs) ≡ flat_map (λ x. map f (g x)) xs
map-flat_map f g [] = refl
map-flat_map {C = C} f g (x ∷ xs) =
    map-append f (g x) (flat_map g xs) ∙ ap (λ (t : List C). map f (g x) ++ t) (map-flat_map f g xs)

pub filter-ext-each : {A : Type 0} (Q : A → Type 0) (p q : A → Bool) → ((x : A) → Q x → p x ≡ q x) → (xs : List A) → Each Q xs → filter p xs ≡ filter q xs
filter-ext-each Q p q h [] e = refl
filter-ext-each Q p q h (x ∷ xs) e = rw (h x e.0, filter-ext-each Q p q h xs e.1) refl

pub filter-ext : {A : Type 0} (p q : A → Bool) → ((x : A) → p x ≡ q x) → (xs : List A) → filter p xs ≡ filter q xs
filter-ext {A = A} p q h xs = filter-ext-each (λ (x : A). Unit {0}) p q (λ x e. h x) xs (Each-always (λ (x : A). Unit {0}) (λ x. tt) xs)

-- where the test fails below n, nothing below n passes
pub filter-none : (n : ℕ) (test : ℕ → Bool) → ((c : ℕ) → c < n → test c ≡ false) → (cs : List ℕ) → Each (λ c. c < n) cs → filter test cs ≡ []
filter-none n test h [] e = refl
filter-none n test h (c ∷ cs) e = rw (h c e.0) (filter-none n test h cs e.1)

-- what passes a test over a range
pub filter-range : (test : ℕ → Bool) (a n m : ℕ) → a + n ≡ m → Each (λ c. (test c ≡ true) × (c < m)) (filter test (range_with_len a n))
filter-range test a zero m e = tt
filter-range test a (suc n) m e = by_case (test a) refl (filter-range test (a + 1) n m (omega arith))
  where
    by_case : (b : Bool) → test a ≡ b → Each (λ c. (test c ≡ true) × (c < m)) (filter test (range_with_len (a + 1) n))
        → Each (λ c. (test c ≡ true) × (c < m)) (cond b (a ∷ filter test (range_with_len (a + 1) n)) (filter test (range_with_len (a + 1) n)))
    by_case true h r = ((h, omega arith), r)
    by_case false h r = r

-- ---- some item

pub list_any-ext-each : {A : Type 0} (Q : A → Type 0) (p q : A → Bool) → ((x : A) → Q x → p x ≡ q x) → (xs : List A) → Each Q xs
    → list_any p xs ≡ list_any q xs
list_any-ext-each Q p q h [] e = refl
list_any-ext-each Q p q h (x ∷ xs) e = rw (h x e.0, list_any-ext-each Q p q h xs e.1) refl

pub list_any-ext : {A : Type 0} (p q : A → Bool) → ((x : A) → p x ≡ q x) → (xs : List A) → list_any p xs ≡ list_any q xs
list_any-ext {A = A} p q h xs = list_any-ext-each (λ (x : A). Unit {0}) p q (λ x e. h x) xs (Each-always (λ (x : A). Unit {0}) (λ x. tt) xs)

pub list_any-map : {A B : Type 0} (p : B → Bool) (f : A → B) (xs : List A) → list_any p (map f xs) ≡ list_any (λ x. p (f x)) xs
list_any-map p f [] = refl
list_any-map p f (x ∷ xs) = ap (λ b. p (f x) || b) (list_any-map p f xs)

pub list_any-flat_map : {A B : Type 0} (p : B → Bool) (f : A → List B) (xs : List A) → list_any p (flat_map f xs) ≡ list_any (λ x. list_any p (f x)) xs
list_any-flat_map p f [] = refl
list_any-flat_map p f (x ∷ xs) = list_any-append p (f x) (flat_map f xs) ∙ ap (λ b. list_any p (f x) || b) (list_any-flat_map p f xs)

-- what each item gives, some item gives
pub list_any-gives : {A : Type 0} (p : A → Bool) (b : Bool) → ((x : A) → p x ≡ true → b ≡ true) → (xs : List A) → list_any p xs ≡ true → b ≡ true
list_any-gives p b h [] e = absurd (cc)
list_any-gives p b h (x ∷ xs) e = by_case (p x) refl e (list_any-gives p b h xs)
  where
    by_case : (c : Bool) → p x ≡ c → (c || list_any p xs) ≡ true → (list_any p xs ≡ true → b ≡ true) → b ≡ true
    by_case true k e r = h x k
    by_case false k e r = r e

pub list_any-mono : {A : Type 0} (p q : A → Bool) → ((x : A) → p x ≡ true → q x ≡ true) → (xs : List A) → list_any p xs ≡ true → list_any q xs ≡ true
list_any-mono p q h [] e = e
list_any-mono p q h (x ∷ xs) e = by_case (p x) refl e (list_any-mono p q h xs)
  where
    by_case : (c : Bool) → p x ≡ c → (c || list_any p xs) ≡ true → (list_any p xs ≡ true → list_any q xs ≡ true) → (q x || list_any q xs) ≡ true
    by_case true k e r = rw (h x k) refl
    by_case false k e r = ap (λ b. q x || b) (r e) ∙ or_right (q x) true refl

-- ---- more on maps and filters

pub flat_map-ext-each : {A B : Type 0} (Q : A → Type 0) (f g : A → List B) → ((x : A) → Q x → f x ≡ g x) → (xs : List A) → Each Q xs
    → flat_map f xs ≡ flat_map g xs
flat_map-ext-each Q f g h [] e = refl
flat_map-ext-each Q f g h (x ∷ xs) e = rw (h x e.0, flat_map-ext-each Q f g h xs e.1) refl

pub flat_map-flat_map : {A B C : Type 0} (f : B → List C) (g : A → List B) (xs : List A) → flat_map f (flat_map g xs) ≡ flat_map (λ x. flat_map f (g x)) xs
flat_map-flat_map f g [] = refl
flat_map-flat_map {C = C} f g (x ∷ xs) =
    flat_map-append f (g x) (flat_map g xs) ∙ ap (λ (t : List C). flat_map f (g x) ++ t) (flat_map-flat_map f g xs)

pub flat_map-single : {A B : Type 0} (f : A → B) (xs : List A) → flat_map (λ x. f x ∷ []) xs ≡ map f xs
flat_map-single f [] = refl
flat_map-single {B = B} f (x ∷ xs) = ap (λ (t : List B). f x ∷ t) (flat_map-single f xs)

pub filter-map : {A B : Type 0} (p : B → Bool) (f : A → B) (xs : List A) → filter p (map f xs) ≡ map f (filter (λ x. p (f x)) xs)
filter-map p f [] = refl
filter-map {B = B} p f (x ∷ xs) = by_case (p (f x)) (filter-map p f xs)
  where
    by_case : (b : Bool) → filter p (map f xs) ≡ map f (filter (λ x. p (f x)) xs)
        → cond b (f x ∷ filter p (map f xs)) (filter p (map f xs)) ≡ map f (cond b (x ∷ filter (λ x. p (f x)) xs) (filter (λ x. p (f x)) xs))
    by_case true e = ap (λ (t : List B). f x ∷ t) e
    by_case false e = e

pub filter-flat_map : {A B : Type 0} (p : B → Bool) (f : A → List B) (xs : List A) → filter p (flat_map f xs) ≡ flat_map (λ x. filter p (f x)) xs
filter-flat_map p f [] = refl
filter-flat_map {B = B} p f (x ∷ xs) =
    filter-append p (f x) (flat_map f xs) ∙ ap (λ (t : List B). filter p (f x) ++ t) (filter-flat_map p f xs)

-- what adds nothing may be left out
pub flat_map-filter : {A B : Type 0} (Q : A → Type 0) (p : A → Bool) (f : A → List B) → ((x : A) → Q x → p x ≡ false → f x ≡ []) → (xs : List A) → Each Q xs
    → flat_map f (filter p xs) ≡ flat_map f xs
flat_map-filter Q p f none [] h = refl
flat_map-filter {B = B} Q p f none (x ∷ xs) h = by_case (p x) refl (flat_map-filter Q p f none xs h.1)
  where
    by_case : (b : Bool) → p x ≡ b → flat_map f (filter p xs) ≡ flat_map f xs
        → flat_map f (cond b (x ∷ filter p xs) (filter p xs)) ≡ f x ++ flat_map f xs
    by_case true e r = ap (λ (t : List B). f x ++ t) r
    by_case false e r = r ∙ ap (λ (t : List B). t ++ flat_map f xs) (sym (none x h.0 e))

pub filter-none-each : {A : Type 0} (p : A → Bool) (xs : List A) → Each (λ x. p x ≡ false) xs → filter p xs ≡ []
filter-none-each p [] h = refl
filter-none-each p (x ∷ xs) h = rw h.0 (filter-none-each p xs h.1)

pub filter-all-each : {A : Type 0} (p : A → Bool) (xs : List A) → Each (λ x. p x ≡ true) xs → filter p xs ≡ xs
filter-all-each p [] h = refl
filter-all-each {A = A} p (x ∷ xs) h = rw h.0 (ap (λ (t : List A). x ∷ t) (filter-all-each p xs h.1))

-- ---- more on each item

pub Each-right : {A : Type 0} (Q : A → Type 0) (xs ys : List A) → Each Q (xs ++ ys) → Each Q ys
Each-right Q [] ys h = h
Each-right Q (x ∷ xs) ys h = Each-right Q xs ys h.1

pub Each-weaker : {A : Type 0} (P Q : A → Type 0) → ((x : A) → P x → Q x) → (xs : List A) → Each P xs → Each Q xs
Each-weaker P Q e [] h = tt
Each-weaker P Q e (x ∷ xs) h = (e x h.0, Each-weaker P Q e xs h.1)

pub Each-both : {A : Type 0} (P Q : A → Type 0) (xs : List A) → Each P xs → Each Q xs → Each (λ x. P x × Q x) xs
Each-both P Q [] h k = tt
Each-both P Q (x ∷ xs) h k = ((h.0, k.0), Each-both P Q xs h.1 k.1)

pub Each-filter : {A : Type 0} (Q : A → Type 0) (p : A → Bool) (xs : List A) → Each Q xs → Each Q (filter p xs)
Each-filter Q p [] h = tt
Each-filter {A = A} Q p (x ∷ xs) h = by_case (p x) (Each-filter Q p xs h.1)
  where
    by_case : (b : Bool) → Each Q (filter p xs) → Each Q (cond b (x ∷ filter p xs) (filter p xs))
    by_case true r = (h.0, r)
    by_case false r = r

pub Each-passed : {A : Type 0} (p : A → Bool) (xs : List A) → Each (λ x. p x ≡ true) (filter p xs)
Each-passed p [] = tt
Each-passed {A = A} p (x ∷ xs) = by_case (p x) refl (Each-passed p xs)
  where
    by_case : (b : Bool) → p x ≡ b → Each (λ x. p x ≡ true) (filter p xs) → Each (λ x. p x ≡ true) (cond b (x ∷ filter p xs) (filter p xs))
    by_case true e r = (e, r)
    by_case false e r = r

pub Each-mapped : {A B : Type 0} (Q : B → Type 0) (f : A → B) (xs : List A) → Each (λ x. Q (f x)) xs → Each Q (map f xs)
Each-mapped Q f [] h = tt
Each-mapped Q f (x ∷ xs) h = (h.0, Each-mapped Q f xs h.1)

pub filter-never : {A : Type 0} (p : A → Bool) → ((x : A) → p x ≡ false) → (xs : List A) → filter p xs ≡ []
filter-never p e [] = refl
filter-never p e (x ∷ xs) = rw (e x) (filter-never p e xs)
