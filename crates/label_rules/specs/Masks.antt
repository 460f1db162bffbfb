-- Sets of access factors as numbers.
use Rattle.std.specs.Prelude.{ℕ, ◌^◌, List, [], ◌∷◌}
use Rattle.std.specs.Int.Bits.{bit_or}

-- a mask with the bit of each of these factors, too
abbrev pub mask_with : ℕ → List ℕ → ℕ
mask_with mask [] = mask
mask_with mask (f ∷ factors) = mask_with (bit_or mask (2 ^ f)) factors

-- the number whose bit f is set for each of these factors
abbrev pub factors_mask : List ℕ → ℕ
factors_mask factors = mask_with 0 factors
