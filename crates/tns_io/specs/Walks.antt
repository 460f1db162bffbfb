-- Where a walk over the values of a written result stands.
use Rattle.std.specs.Prelude.{◌≡◌, ℕ, ◌+◌, ◌<◌, ◌≤◌, List, [], ◌∷◌, length, drop, slice_index}
use Rattle.std.specs.List.{enumerate_from}
use mathlib.Core.List.{map}
use Rattle.sam_model.specs.declared.tensors.Written.{Written}
use Rattle.sam_model.specs.Listing.{place_above, outer_place, path_of}
use Rattle.tns_io.specs.declared.paths.Walk.{Walk}

-- in the first of these levels there are a place and a fiber on the way to place q of the last
abbrev pub IsReached : List (List ℕ) → List (List ℕ) → ℕ → Type 0
IsReached [] crds q = Unit {0}
IsReached (ends ∷ segs) [] q = Unit {0}
IsReached (ends ∷ segs) (coordinates ∷ crds) q =
    (outer_place segs q < length coordinates) × (place_above ends (outer_place segs q) + 1 < length ends)

-- at no level the walk is past the fiber on the way to place q of the last
abbrev pub NotPast : List ℕ → List (List ℕ) → ℕ → Type 0
NotPast fibers segs q = (k : ℕ) → k < length segs → slice_index fibers k ≤ outer_place (drop k segs) q

-- a walk over the values of a result of so many levels stands before the value of this number, or at it
pub record StandsAt (levels : ℕ) (w : Written) (walk : Walk) (number : ℕ) : Type 0 where
  pub path : length walk.path.items ≡ levels
  pub fibers : length walk.fibers.items ≡ levels
  pub before : NotPast walk.fibers.items w.segs number

-- the values of a result from this number on, each with its path
abbrev pub listing_from : Written → ℕ → List (List ℕ × ℕ)
listing_from w n = map (λ numbered. (path_of w.segs w.crds numbered.0, numbered.1)) (enumerate_from n (drop n w.vals))
