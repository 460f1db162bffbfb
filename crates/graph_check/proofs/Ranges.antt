-- Masks of the factors that a loop runs through.
use Rattle.std.proofs.Common.{◌≡◌, ◌<◌, ◌≤◌, ℕ, suc, ◌+◌, ◌-◌, ◌^◌, [], Bool, true, false, cond, ◌∷◌, refl, ap, arith}
use Rattle.std.specs.Int.Bits.{bit_or}
use Rattle.std.specs.List.{filter, range_with_len}
use Rattle.label_rules.specs.Masks.{mask_with}

-- a range is its first number and the rest
pub range_further : (n end : ℕ) → n < end → range_with_len n (end - n) ≡ n ∷ range_with_len (n + 1) (end - (n + 1))
range_further n end h = let less : end - n ≡ suc (end - (n + 1)) = omega arith in ap (range_with_len n) less

-- the mask takes the next factor where it passes
pub mask_further : (has : ℕ → Bool) (b : Bool) (mask n end : ℕ) → n < end → has n ≡ b
    → mask_with mask (filter has (range_with_len n (end - n)))
    ≡ mask_with (cond b (bit_or mask (2 ^ n)) mask) (filter has (range_with_len (n + 1) (end - (n + 1))))
mask_further has true mask n end h e = rw (range_further n end h, e) refl
mask_further has false mask n end h e = rw (range_further n end h, e) refl

-- and past its end there is nothing
pub range_past : (n end : ℕ) → end ≤ n → range_with_len n (end - n) ≡ []
range_past n end h = let none : end - n ≡ 0 = omega arith in ap (range_with_len n) none
