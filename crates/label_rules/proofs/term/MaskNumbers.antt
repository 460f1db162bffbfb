-- The bits of a mask number are the factors that it was made of.
use Rattle.std.specs.Prelude.{◌≡◌, ◌<◌, ℕ, zero, suc, ◌^◌, Bool, false, ◌||◌, List, [], ◌∷◌, ◌++◌, length, get_or, eqb, refl}
use Rattle.std.specs.Int.Bits.{bit_or}
use Rattle.std.proofs.Common.{arith, sym, ◌∙◌, ap}
use Rattle.std.proofs.Math.Bool.{or_assoc}
use Rattle.sam_model.specs.Lists.{is_in}
use Rattle.stream_model.specs.Terms.{TermData, access_at}
use Rattle.stream_model.specs.Labels.{bits}
use Rattle.stream_model.specs.Masks.{only, any_of, final}
use Rattle.stream_model.proofs.Masks.{length-only, bit-only, length-any_of, bit-any_of, mask-ext, bit-final, length-final}
use Rattle.stream_model.proofs.Numbers.{length-bits, bits-only, bits-any_of, AllBelow, turned}
use Rattle.sam_model.proofs.Lists.{or-false}
use Rattle.label_rules.specs.Masks.{mask_with, factors_mask}

bit_with : (n mask : ℕ) (fs : List ℕ) (g : ℕ) → AllBelow n fs
    → get_or (bits n (mask_with mask fs)) g false ≡ (get_or (bits n mask) g false || is_in g fs)
bit_with n mask [] g h = sym (or-false (get_or (bits n mask) g false))
bit_with n mask (f ∷ fs) g h =
    bit_with n (bit_or mask (2 ^ f)) fs g h.1
    ∙ ap (λ b. b || is_in g fs)
    (ap (λ (m : List Bool). get_or m g false) (bits-any_of n mask (2 ^ f) ∙ ap (any_of (bits n mask)) (bits-only n f h.0))
    ∙ bit-any_of (bits n mask) (only n f) g ∙ ap (λ b. get_or (bits n mask) g false || b) (bit-only n f g h.0 ∙ turned f g))
    ∙ or_assoc (get_or (bits n mask) g false) (eqb g f) (is_in g fs)

no_bits : (n g : ℕ) → get_or (bits n 0) g false ≡ false
no_bits zero g = refl
no_bits (suc n) zero = refl
no_bits (suc n) (suc g) = no_bits n g

-- bit g is set where g is one of the factors
pub bit-mask : (n : ℕ) (fs : List ℕ) (g : ℕ) → AllBelow n fs → get_or (bits n (factors_mask fs)) g false ≡ is_in g fs
bit-mask n fs g h = bit_with n 0 fs g h ∙ ap (λ b. b || is_in g fs) (no_bits n g)

-- one factor
pub mask-one : (n f : ℕ) → f < n → bits n (factors_mask (f ∷ [])) ≡ only n f
mask-one n f h =
    mask-ext (bits n (factors_mask (f ∷ []))) (only n f) (length-bits n (factors_mask (f ∷ [])) ∙ sym (length-only n f))
    (λ g l. bit-mask n (f ∷ []) g (h, tt) ∙ or-false (eqb g f) ∙ turned g f ∙ sym (bit-only n f g h))

is_in_append : (g : ℕ) (fs hs : List ℕ) → is_in g (fs ++ hs) ≡ (is_in g fs || is_in g hs)
is_in_append g [] hs = refl
is_in_append g (f ∷ fs) hs = ap (λ b. eqb g f || b) (is_in_append g fs hs) ∙ sym (or_assoc (eqb g f) (is_in g fs) (is_in g hs))

-- one factor more
pub mask-more : (n : ℕ) (fs : List ℕ) (f : ℕ) → AllBelow n fs → f < n → AllBelow n (fs ++ f ∷ [])
    → bits n (factors_mask (fs ++ f ∷ [])) ≡ any_of (bits n (factors_mask fs)) (only n f)
mask-more n fs f h l k =
    mask-ext (bits n (factors_mask (fs ++ f ∷ []))) (any_of (bits n (factors_mask fs)) (only n f))
    (length-bits n (factors_mask (fs ++ f ∷ []))
    ∙ sym (length-any_of (bits n (factors_mask fs)) (only n f) (length-bits n (factors_mask fs) ∙ sym (length-only n f))
    ∙ length-only n f))
    (λ g i. bit-mask n (fs ++ f ∷ []) g k ∙ is_in_append g fs (f ∷ [])
    ∙ ap (λ b. is_in g fs || b) (or-false (eqb g f) ∙ turned g f ∙ sym (bit-only n f g l))
    ∙ ap (λ b. b || get_or (only n f) g false) (sym (bit-mask n fs g h))
    ∙ sym (bit-any_of (bits n (factors_mask fs)) (only n f) g))

-- the factors that have a loop
pub mask-final : (t : TermData) (d : ℕ) (fs : List ℕ) → AllBelow (length t.accesses) fs
    → ((g : ℕ) → g < length t.accesses → is_in g fs ≡ get_or (access_at t.accesses g).has d false)
    → bits (length t.accesses) (factors_mask fs) ≡ final t (suc d)
mask-final t d fs h e =
    let n = length t.accesses in
    mask-ext (bits n (factors_mask fs)) (final t (suc d)) (length-bits n (factors_mask fs) ∙ sym (length-final t d))
    (λ g l. let i : g < n = omega (arith, l, length-bits n (factors_mask fs)) in
    bit-mask n fs g h ∙ e g i ∙ sym (bit-final t d g i))
