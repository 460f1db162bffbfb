-- What the arrays of a written result say: whether they are in range, and the path of each value.
use Rattle.std.specs.Prelude.{ℕ, suc, ◌≡◌, ◌≤◌, List, [], ◌∷◌, length, slice_index, drop, nat_le}
use Rattle.std.specs.List.{prefix_len, enumerate_from}
use Rattle.std.specs.List.Sorted.{IsNonDecreasing}
use mathlib.Core.List.{map}
use Rattle.sam_model.specs.declared.tensors.Written.{Written}

-- One level, where the level above has so many places: a fiber for each of these, whose ends ascend from 0 to the number
-- of coordinates.
pub record LevelInRange (above : ℕ) (ends coordinates : List ℕ) : Type 0 where
  pub count : length ends ≡ suc above
  pub first : slice_index ends 0 ≡ 0
  pub last : slice_index ends above ≡ length coordinates
  pub ascending : IsNonDecreasing ends

-- the levels in turn, each under the coordinates of the one above
abbrev pub LevelsInRange : ℕ → List (List ℕ) → List (List ℕ) → Type 0
LevelsInRange above [] crds = Unit {0}
LevelsInRange above (ends ∷ segs) [] = Unit {0}
LevelsInRange above (ends ∷ segs) (coordinates ∷ crds) =
    LevelInRange above ends coordinates × LevelsInRange (length coordinates) segs crds

-- as many values as the last level has coordinates, and at most one where there is no level
abbrev pub ValuesInRange : List (List ℕ) → List ℕ → Type 0
ValuesInRange [] vals = length vals ≤ 1
ValuesInRange (coordinates ∷ []) vals = length vals ≡ length coordinates
ValuesInRange (coordinates ∷ more ∷ crds) vals = ValuesInRange (more ∷ crds) vals

-- a written result of r levels is in range
pub record InRange (r : ℕ) (w : Written) : Type 0 where
  pub segs : length w.segs ≡ r
  pub crds : length w.crds ≡ r
  pub levels : LevelsInRange 1 w.segs w.crds
  pub vals : ValuesInRange w.crds w.vals

-- the fiber that place q of a level is in: the first that ends behind it
abbrev pub place_above : List ℕ → ℕ → ℕ
place_above ends q = prefix_len (λ end. nat_le end q) (drop 1 ends)

-- the place above these levels that place q of the last is under
abbrev pub outer_place : List (List ℕ) → ℕ → ℕ
outer_place [] q = q
outer_place (ends ∷ segs) q = place_above ends (outer_place segs q)

-- the coordinates on the way to place q of the last level, outermost first
abbrev pub path_of : List (List ℕ) → List (List ℕ) → ℕ → List ℕ
path_of [] crds q = []
path_of (ends ∷ segs) [] q = []
path_of (ends ∷ segs) (coordinates ∷ crds) q = slice_index coordinates (outer_place segs q) ∷ path_of segs crds q

-- the values in order, each with its path
abbrev pub listing : Written → List (List ℕ × ℕ)
listing w = map (λ numbered. (path_of w.segs w.crds numbered.0, numbered.1)) (enumerate_from 0 w.vals)
