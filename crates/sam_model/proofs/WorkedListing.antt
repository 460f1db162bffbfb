-- The listing of a written result, on cases by hand.
use Rattle.std.proofs.Common.{◌≡◌, [], ◌∷◌, refl}
use Rattle.sam_model.specs.declared.tensors.Written.{Written}
use Rattle.sam_model.specs.Listing.{listing}

-- the matrix with entries (0,1), (1,0), (1,2), (3,1), (3,3)
abbrev matrix : Written
matrix = record {
  segs = (0 ∷ 3 ∷ []) ∷ (0 ∷ 1 ∷ 3 ∷ 5 ∷ []) ∷ [];
  crds = (0 ∷ 1 ∷ 3 ∷ []) ∷ (1 ∷ 0 ∷ 2 ∷ 1 ∷ 3 ∷ []) ∷ [];
  vals = 6 ∷ 7 ∷ 8 ∷ 9 ∷ 5 ∷ [];
}

matrix-listing :
    listing matrix ≡ ((0 ∷ 1 ∷ []), 6) ∷ ((1 ∷ 0 ∷ []), 7) ∷ ((1 ∷ 2 ∷ []), 8) ∷ ((3 ∷ 1 ∷ []), 9) ∷ ((3 ∷ 3 ∷ []), 5) ∷ []
matrix-listing = refl

-- fibers without a coordinate lead to no value
abbrev with_empty : Written
with_empty = record {
  segs = (0 ∷ 4 ∷ []) ∷ (0 ∷ 0 ∷ 1 ∷ 1 ∷ 3 ∷ []) ∷ [];
  crds = (2 ∷ 4 ∷ 5 ∷ 7 ∷ []) ∷ (1 ∷ 0 ∷ 6 ∷ []) ∷ [];
  vals = 10 ∷ 11 ∷ 12 ∷ [];
}

with-empty-listing : listing with_empty ≡ ((4 ∷ 1 ∷ []), 10) ∷ ((7 ∷ 0 ∷ []), 11) ∷ ((7 ∷ 6 ∷ []), 12) ∷ []
with-empty-listing = refl

vector-listing : listing (record { segs = (0 ∷ 2 ∷ []) ∷ []; crds = (3 ∷ 9 ∷ []) ∷ []; vals = 1 ∷ 2 ∷ [] }) ≡ ((3 ∷ []), 1) ∷ ((9 ∷ []), 2) ∷ []
vector-listing = refl

nothing-listing : listing (record { segs = (0 ∷ 0 ∷ []) ∷ []; crds = [] ∷ []; vals = [] }) ≡ []
nothing-listing = refl

number-listing : listing (record { segs = []; crds = []; vals = 35 ∷ [] }) ≡ ([], 35) ∷ []
number-listing = refl
