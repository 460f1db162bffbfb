-- Written results by hand are in range.
use Rattle.std.proofs.Common.{◌≡◌, ◌-◌, ◌^◌, [], ◌∷◌, refl, lit≤, codes}
use Rattle.std.specs.Fmt.{digits}
use Rattle.sam_model.specs.declared.tensors.Written.{Written}
use Rattle.sam_model.specs.Listing.{InRange, listing}
use Rattle.sam_model.specs.ResultText.{listing_text}
use Rattle.tns_io.proofs.Rising.{rising}

-- a matrix of 2 by 3 that is stored by columns, with an empty column between
abbrev pub matrix : Written
matrix = record {
  segs = (0 ∷ 3 ∷ []) ∷ (0 ∷ 1 ∷ 1 ∷ 3 ∷ []) ∷ [];
  crds = (0 ∷ 1 ∷ 2 ∷ []) ∷ (1 ∷ 0 ∷ 1 ∷ []) ∷ [];
  vals = 7 ∷ 2 ^ 63 ∷ (2 ^ 64 - 1) ∷ [];
}

pub matrix-in-range : InRange 2 matrix
matrix-in-range = record {
  segs = refl;
  crds = refl;
  levels = (
    record { count = refl; first = refl; last = refl; ascending = rising 0 (3 ∷ []) (lit≤ tt, tt) },
    (record { count = refl; first = refl; last = refl; ascending = rising 0 (1 ∷ 1 ∷ 3 ∷ []) (lit≤ tt, (lit≤ tt, (lit≤ tt, tt))) }, tt),
  );
  vals = refl;
}

matrix-text : listing_text (1 ∷ 0 ∷ []) (listing matrix) ≡ codes "2 1 7\n1 3 -9223372036854775808\n2 3 -1\n"
unfolding digits
matrix-text = refl

-- a number without dimensions
abbrev pub number : Written
number = record { segs = []; crds = []; vals = (2 ^ 63 - 1) ∷ [] }

pub number-in-range : InRange 0 number
number-in-range = record { segs = refl; crds = refl; levels = tt; vals = lit≤ tt }

number-text : listing_text [] (listing number) ≡ codes "9223372036854775807\n"
unfolding digits
number-text = refl
