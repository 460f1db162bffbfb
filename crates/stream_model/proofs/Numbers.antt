-- Masks as numbers, and as unions of single accesses.
use Rattle.std.specs.Prelude.{◌≡◌, ◌<◌, ◌⊎◌, ℕ, zero, suc, ◌^◌, ◌/◌, max, false, ◌||◌, List, [], ◌∷◌, length, get_or, eqb, refl}
use Rattle.std.specs.Int.{bit_at}
use Rattle.std.specs.Int.Bits.{bit_or}
use Rattle.std.proofs.Common.{arith, sym, ◌∙◌, ap, inl, inr}
use Rattle.std.proofs.lemmas.Bool.{cases_eq, eq-eqb, ne_eqb}
use Rattle.std.proofs.lemmas.Bool.Decides.{nat_tests}
use Rattle.std.proofs.lemmas.Nat.Bits.{bit_at_or, bit_at-lt, bit_at_lowest, bit_at-pow_same, bit_at-pow_other, bit_at-suc}
use Rattle.stream_model.specs.Labels.{bits}
use Rattle.stream_model.specs.Masks.{only, any_of}
use Rattle.stream_model.proofs.Masks.{length-only, bit-only, length-any_of, bit-any_of, mask-ext}

-- ---- the mask of a number

pub length-bits : (n m : ℕ) → length (bits n m) ≡ n
length-bits zero m = refl
length-bits (suc n) m = ap suc (length-bits n (m / 2))

pub bit-bits : (n m f : ℕ) → f < n → get_or (bits n m) f false ≡ eqb (bit_at m f) 1
bit-bits zero m f h = absurd (omega (arith, h))
bit-bits (suc n) m zero h = ap (λ (x : ℕ). eqb x 1) (sym (bit_at_lowest m))
bit-bits (suc n) m (suc f) h = bit-bits n (m / 2) f (omega (arith, h)) ∙ ap (λ (x : ℕ). eqb x 1) (sym (bit_at-suc m f))

-- a single bit is a single access
pub bits-only : (n f : ℕ) → f < n → bits n (2 ^ f) ≡ only n f
bits-only n f h =
    mask-ext (bits n (2 ^ f)) (only n f) (length-bits n (2 ^ f) ∙ sym (length-only n f))
    (λ g k. bit-bits n (2 ^ f) g (omega (arith, k, length-bits n (2 ^ f))) ∙ one g (cases_eq g f) ∙ sym (bit-only n f g h))
  where
    one : (g : ℕ) → (g ≡ f) ⊎ (g ≡ f → ⊥) → eqb (bit_at (2 ^ f) g) 1 ≡ eqb f g
    one g (inl e) = ap (λ (x : ℕ). eqb (bit_at (2 ^ f) x) 1) e ∙ ap (λ (x : ℕ). eqb x 1) (bit_at-pow_same f) ∙ sym (eq-eqb f g (sym e))
    one g (inr e) = ap (λ (x : ℕ). eqb x 1) (bit_at-pow_other f g e) ∙ sym (ne_eqb f g (λ k. e (sym k)))

either : (x y : ℕ) → x < 2 → y < 2 → eqb (max x y) 1 ≡ (eqb x 1 || eqb y 1)
either x y h k = grind (arith, nat_tests)

-- the bits of either number are the accesses of either mask
pub bits-any_of : (n a b : ℕ) → bits n (bit_or a b) ≡ any_of (bits n a) (bits n b)
bits-any_of n a b =
    let same : length (bits n a) ≡ length (bits n b) = length-bits n a ∙ sym (length-bits n b) in
    mask-ext (bits n (bit_or a b)) (any_of (bits n a) (bits n b))
    (length-bits n (bit_or a b) ∙ sym (length-any_of (bits n a) (bits n b) same ∙ length-bits n b)) one
  where
    one : (g : ℕ) → g < length (bits n (bit_or a b)) → get_or (bits n (bit_or a b)) g false ≡ get_or (any_of (bits n a) (bits n b)) g false
    one g k =
        let l : g < n = omega (arith, k, length-bits n (bit_or a b)) in
        bit-bits n (bit_or a b) g l ∙ ap (λ (x : ℕ). eqb x 1) (bit_at_or a b g) ∙ either (bit_at a g) (bit_at b g) (bit_at-lt a g) (bit_at-lt b g)
        ∙ sym
        (bit-any_of (bits n a) (bits n b) g ∙ ap (λ x. x || get_or (bits n b) g false) (bit-bits n a g l) ∙ ap (λ x. eqb (bit_at a g) 1 || x) (bit-bits n b g l))

-- ---- unions of single accesses

-- each of these is an access, of n
abbrev pub AllBelow : ℕ → List ℕ → Type 0
AllBelow n [] = Unit {0}
AllBelow n (f ∷ fs) = (f < n) × AllBelow n fs

-- whether two numbers are equal, either way round
pub turned : (f g : ℕ) → eqb f g ≡ eqb g f
turned f g = grind (arith, nat_tests)
