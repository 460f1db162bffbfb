-- The children that the arrays of a level hold, each with its rank.
use Rattle.std.specs.Prelude.{ℕ, ◌+◌, ◌-◌, ◌*◌, List, length, slice_index}
use Rattle.std.specs.List.{range_with_len}
use mathlib.Core.List.{map}
use Rattle.sam_model.specs.Lists.{below}

-- under each parent every coordinate below the size, numbered through
abbrev pub dense_children : ℕ → ℕ → List (List (ℕ × ℕ))
dense_children size parents = map (λ r. map (λ c. (c, r * size + c)) (below size)) (below parents)

-- some coordinates from a place on, with their places
abbrev pub fiber : List ℕ → ℕ → ℕ → List (ℕ × ℕ)
fiber coordinates place len = map (λ j. (slice_index coordinates j, j)) (range_with_len place len)

-- the coordinates between the places of two neighbouring segments, for each two
abbrev pub fibers : List ℕ → List ℕ → List (List (ℕ × ℕ))
fibers segments coordinates =
    map (λ r. fiber coordinates (slice_index segments r) (slice_index segments (r + 1) - slice_index segments r))
    (below (length segments - 1))
