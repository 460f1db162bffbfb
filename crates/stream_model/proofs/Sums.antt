-- Sums of values that may be absent.
use Rattle.std.specs.Prelude.{◌≡◌, ℕ, ◌+◌, ◌%◌, ◌^◌, Bool, true, false, cond, ◌||◌, List, [], ◌∷◌, ◌++◌, Some, None, is_some, refl}
use Rattle.std.specs.List.{flat_map, list_any}
use mathlib.Core.List.{map}
use Rattle.std.proofs.Common.{arith, sym, ◌∙◌, ap}
use Rattle.std.proofs.Math.Nat.{mod-add-mod, add-mod-mod, add_assoc, add_comm}
use Rattle.sam_model.specs.Lists.{total}
use Rattle.stream_tokens.specs.Nest.{Leaf}
use Rattle.stream_model.specs.Trees.{plus_there, sum_there}

pub plus-none : (a : Leaf) → plus_there a None ≡ a
plus-none None = refl
plus-none (Some a) = refl

regrouped : (m a b c : ℕ) → ((a + b) % m + c) % m ≡ (a + (b + c) % m) % m
regrouped m a b c = mod-add-mod (a + b) m c ∙ ap (λ (n : ℕ). n % m) (add_assoc a b c) ∙ sym (add-mod-mod a (b + c) m)

pub plus-assoc : (a b c : Leaf) → plus_there (plus_there a b) c ≡ plus_there a (plus_there b c)
plus-assoc None b c = refl
plus-assoc (Some a) None c = refl
plus-assoc (Some a) (Some b) None = refl
plus-assoc (Some a) (Some b) (Some c) = ap (λ (n : ℕ). Some n) (regrouped (2 ^ 64) a b c)

pub plus-comm : (a b : Leaf) → plus_there a b ≡ plus_there b a
plus-comm None b = sym (plus-none b)
plus-comm (Some a) None = refl
plus-comm (Some a) (Some b) = ap (λ (n : ℕ). Some (n % 2 ^ 64)) (add_comm a b)

pub sum-append : (xs ys : List Leaf) → sum_there (xs ++ ys) ≡ plus_there (sum_there xs) (sum_there ys)
sum-append [] ys = refl
sum-append (x ∷ xs) ys = ap (plus_there x) (sum-append xs ys) ∙ sym (plus-assoc x (sum_there xs) (sum_there ys))

-- the sum over lists in a row is the sum of their sums
pub sum-flat_map : {A B : Type 0} (v : B → Leaf) (f : A → List B) (xs : List A)
    → sum_there (map v (flat_map f xs)) ≡ sum_there (map (λ x. sum_there (map v (f x))) xs)
sum-flat_map v f [] = refl
sum-flat_map {B = B} v f (x ∷ xs) =
    ap sum_there (pieces (f x)) ∙ sum-append (map v (f x)) (map v (flat_map f xs)) ∙ ap (plus_there (sum_there (map v (f x)))) (sum-flat_map v f xs)
  where
    pieces : (ys : List B) → map v (ys ++ flat_map f xs) ≡ map v ys ++ map v (flat_map f xs)
    pieces [] = refl
    pieces (y ∷ ys) = ap (λ (t : List Leaf). v y ∷ t) (pieces ys)

some_sum : (a b : Leaf) → is_some (plus_there a b) ≡ (is_some a || is_some b)
some_sum None b = refl
some_sum (Some a) None = refl
some_sum (Some a) (Some b) = refl

-- a sum is there where one of its values is
pub is_some-sum : (xs : List Leaf) → is_some (sum_there xs) ≡ list_any is_some xs
is_some-sum [] = refl
is_some-sum (x ∷ xs) = some_sum x (sum_there xs) ∙ ap (λ b. is_some x || b) (is_some-sum xs)

-- ---- sums of what passes a test

abbrev pub where_passes : {A : Type 0} → (A → Bool) → (A → ℕ) → A → Leaf
where_passes ok f x = cond (ok x) (Some (f x)) None

pub nothing-passes : {A : Type 0} (ok : A → Bool) (f : A → ℕ) → ((x : A) → ok x ≡ false → f x ≡ 0) → (xs : List A) → list_any ok xs ≡ false → total f xs ≡ 0
nothing-passes ok f z [] h = refl
nothing-passes ok f z (x ∷ xs) h = by_case (ok x) refl h (nothing-passes ok f z xs)
  where
    by_case : (b : Bool) → ok x ≡ b → (b || list_any ok xs) ≡ false → (list_any ok xs ≡ false → total f xs ≡ 0) → f x + total f xs ≡ 0
    by_case true e k r = absurd (cc)
    by_case false e k r = let a = z x e in let b = r k in omega (arith, a, b)

with_rest : (m a b : ℕ) → a % m ≡ a → b ≡ 0 → a ≡ (a + b) % m
with_rest m a b h z = sym h ∙ ap (λ (n : ℕ). n % m) (add_zero a b z)
  where
    add_zero : (a b : ℕ) → b ≡ 0 → a ≡ a + b
    add_zero a b z = omega (arith, z)

first_zero : (m a b : ℕ) → a ≡ 0 → b % m ≡ (a + b) % m
first_zero m a b z = ap (λ (n : ℕ). n % m) (zero_first a b z)
  where
    zero_first : (a b : ℕ) → a ≡ 0 → b ≡ a + b
    zero_first a b z = omega (arith, z)

-- where what fails the test is 0, the sum of what passes is the total of all, if anything passes
pub sum-passes : {A : Type 0} (ok : A → Bool) (f : A → ℕ) → ((x : A) → ok x ≡ false → f x ≡ 0) → ((x : A) → f x % 2 ^ 64 ≡ f x) → (xs : List A)
    → sum_there (map (where_passes ok f) xs) ≡ cond (list_any ok xs) (Some (total f xs % 2 ^ 64)) None
sum-passes ok f z small [] = refl
sum-passes ok f z small (x ∷ xs) = by_case (ok x) (list_any ok xs) refl refl (sum-passes ok f z small xs)
  where
    by_case : (b c : Bool) → ok x ≡ b → list_any ok xs ≡ c
        → sum_there (map (where_passes ok f) xs) ≡ cond (list_any ok xs) (Some (total f xs % 2 ^ 64)) None
        → plus_there (cond b (Some (f x)) None) (sum_there (map (where_passes ok f) xs)) ≡ cond (b || list_any ok xs) (Some ((f x + total f xs) % 2 ^ 64)) None
    by_case true true e k r =
        ap (plus_there (Some (f x))) (r ∙ ap (λ d. cond d (Some (total f xs % 2 ^ 64)) None) k)
        ∙ ap (λ (n : ℕ). Some n) (add-mod-mod (f x) (total f xs) (2 ^ 64))
    by_case true false e k r =
        ap (plus_there (Some (f x))) (r ∙ ap (λ d. cond d (Some (total f xs % 2 ^ 64)) None) k)
        ∙ ap (λ (n : ℕ). Some n) (with_rest (2 ^ 64) (f x) (total f xs) (small x) (nothing-passes ok f z xs k))
    by_case false c e k r =
        r ∙ ap (λ (n : ℕ). cond (list_any ok xs) (Some n) None) (first_zero (2 ^ 64) (f x) (total f xs) (z x e))
