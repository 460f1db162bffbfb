-- Sums and products modulo a number, and the negative of a number.
use Rattle.std.specs.Prelude.{◌≡◌, ◌<◌, ◌≤◌, ℕ, zero, suc, ◌+◌, ◌-◌, ◌*◌, ◌/◌, ◌%◌, List, [], ◌∷◌, refl}
use Rattle.std.proofs.Common.{arith, sym, ◌∙◌, ap, mul-suc, suc-mul, mul-add, mul_left_comm, mul-zero, mod-lt}
use Rattle.std.proofs.Math.Nat.{mod-add-mod, add-mod-mod, mod-add-div, add-mul-mod_self_left, mul-add-mod_self_left, mul_comm}
use Rattle.sam_base.specs.Each.{Each}
use Rattle.sam_model.specs.Lists.{total}

pub mul-mod-mod : (m a b : ℕ) → (a * (b % m)) % m ≡ (a * b) % m
mul-mod-mod m a b =
    sym (add-mul-mod_self_left (a * (b % m)) m (a * (b / m)))
    ∙ ap (λ (n : ℕ). n % m)
    (ap (λ (n : ℕ). a * (b % m) + n) (mul_left_comm m a (b / m)) ∙ sym (mul-add a (b % m) (m * (b / m))) ∙ ap (λ (n : ℕ). a * n) (mod-add-div b m))

pub mod-mul-mod : (m a b : ℕ) → ((a % m) * b) % m ≡ (a * b) % m
mod-mul-mod m a b = ap (λ (n : ℕ). n % m) (mul_comm (a % m) b) ∙ mul-mod-mod m b a ∙ ap (λ (n : ℕ). n % m) (mul_comm b a)

-- one less than the modulus, times r, is what is missing to the modulus
missing : (k r : ℕ) → r ≤ k → (k * r) % suc k ≡ (suc k - r) % suc k
missing k zero h = ap (λ (n : ℕ). n % suc k) (mul-zero k) ∙ sym (whole k)
  where
    whole : (k : ℕ) → (suc k - 0) % suc k ≡ 0 % suc k
    whole k =
        ap (λ (n : ℕ). n % suc k) (once k) ∙ mul-add-mod_self_left (suc k) 1 0
      where
        once : (k : ℕ) → suc k - 0 ≡ suc k * 1 + 0
        once k = omega arith
missing k (suc j) h = ap (λ (n : ℕ). n % suc k) (parts k j h) ∙ mul-add-mod_self_left (suc k) j (k - j) ∙ ap (λ (n : ℕ). n % suc k) (less k j h)
  where
    less : (k j : ℕ) → suc j ≤ k → k - j ≡ suc k - suc j
    less k j h = omega arith

    parts : (k j : ℕ) → suc j ≤ k → k * suc j ≡ suc k * j + (k - j)
    parts k j h = let a = mul-suc k j in let b = suc-mul k j in omega (arith, a, b)

pub negative : (k n : ℕ) → (k * n) % suc k ≡ (suc k - n % suc k) % suc k
negative k n = sym (mul-mod-mod (suc k) k n) ∙ missing k (n % suc k) (fits (n % suc k) k (mod-lt n (omega arith)))
  where
    fits : (r k : ℕ) → r < suc k → r ≤ k
    fits r k h = omega arith

-- ---- totals

pub total-ext-each : {A : Type 0} (Q : A → Type 0) (f g : A → ℕ) → ((x : A) → Q x → f x ≡ g x) → (xs : List A) → Each Q xs → total f xs ≡ total g xs
total-ext-each Q f g h [] e = refl
total-ext-each Q f g h (x ∷ xs) e = rw (h x e.0, total-ext-each Q f g h xs e.1) refl

pub total-mod : {A : Type 0} (m : ℕ) (f : A → ℕ) (xs : List A) → total (λ x. f x % m) xs % m ≡ total f xs % m
total-mod m f [] = refl
total-mod m f (x ∷ xs) =
    mod-add-mod (f x) m (total (λ x. f x % m) xs)
    ∙ sym (add-mod-mod (f x) (total (λ x. f x % m) xs) m)
    ∙ ap (λ (n : ℕ). (f x + n) % m) (total-mod m f xs)
    ∙ add-mod-mod (f x) (total f xs) m

pub total-times : {A : Type 0} (k : ℕ) (f : A → ℕ) (xs : List A) → total (λ x. k * f x) xs ≡ k * total f xs
total-times k f [] = sym (mul-zero k)
total-times k f (x ∷ xs) = ap (λ (n : ℕ). k * f x + n) (total-times k f xs) ∙ sym (mul-add k (f x) (total f xs))
