-- Results in coordinate form: rows stand one after another, with a coordinate for each level.
use Rattle.std.specs.Prelude.{ℕ, zero, suc, ◌+◌, ◌*◌, List, [], ◌∷◌, slice_index}
use mathlib.Core.List.{map}
use Rattle.sam_model.specs.Lists.{below}

-- the coordinates of a level, row by row
abbrev pub column : ℕ → List ℕ → ℕ → ℕ → List ℕ
column levels rows count level = map (λ row. slice_index rows (row * levels + level)) (below count)

-- one fiber has the first coordinate of every row, and in each further level every place has a fiber of one coordinate
abbrev pub level_ends : ℕ → ℕ → List ℕ
level_ends zero count = 0 ∷ count ∷ []
level_ends (suc level) count = below (suc count)
