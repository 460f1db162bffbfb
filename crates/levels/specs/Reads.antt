-- What the calls of a storage read.
use Rattle.std.specs.Prelude.{ℕ, ◌-◌, List, [], slice_index_or}
use Rattle.sam_model.specs.Children.{Ranked}

-- the children at a level, which counts from 1, of each stored prefix that is one shorter
abbrev pub children_at : Ranked → ℕ → List (List (ℕ × ℕ))
children_at s level = slice_index_or s.children (level - 1) []

-- the children of the stored prefix of rank r
abbrev pub fiber_at : Ranked → ℕ → ℕ → List (ℕ × ℕ)
fiber_at s level r = slice_index_or (children_at s level) r []
