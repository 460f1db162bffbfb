-- A result in coordinate form by hand.
use Rattle.std.proofs.Common.{◌≡◌, ℕ, List, [], ◌∷◌, refl}
use mathlib.Core.List.{map}
use Rattle.sam_model.specs.declared.tensors.Written.{Written}
use Rattle.sam_model.specs.Listing.{listing}
use Rattle.sam_model.specs.Lists.{below}
use Rattle.sam_model.specs.Tensors.{entry_list}
use Rattle.tns_io.specs.Coordinates.{column, level_ends}

-- the entries (0, 1), (0, 4) and (2, 0), of which two have the first coordinate 0
abbrev rows : List ℕ
rows = 0 ∷ 1 ∷ 0 ∷ 4 ∷ 2 ∷ 0 ∷ []

abbrev matrix : Written
matrix = record {
  segs = (0 ∷ 3 ∷ []) ∷ (0 ∷ 1 ∷ 2 ∷ 3 ∷ []) ∷ [];
  crds = (0 ∷ 0 ∷ 2 ∷ []) ∷ (1 ∷ 4 ∷ 0 ∷ []) ∷ [];
  vals = 7 ∷ 8 ∷ 9 ∷ [];
}

matrix-ends : map (λ level. level_ends level 3) (below 2) ≡ matrix.segs
matrix-ends = refl

matrix-columns : map (column 2 rows 3) (below 2) ≡ matrix.crds
matrix-columns = refl

matrix-listing : listing matrix ≡ entry_list 2 rows matrix.vals
matrix-listing = refl
