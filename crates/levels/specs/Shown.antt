-- What a level holds.
use Rattle.std.specs.Prelude.{ℕ, ◌+◌, ◌*◌, List, length}
use mathlib.Core.List.{map}
use Rattle.sam_model.specs.Lists.{below}
use Rattle.levels.specs.declared.level.Level.{Level}
use Rattle.levels.specs.declared.level.Level.TheVariants.{Dense, Compressed}
use Rattle.levels.specs.Arrays.{dense_children, fibers}
use Rattle.levels.specs.Pairs.{before}

abbrev pub level_count : Level → ℕ
level_count (Dense level) = level.parents * level.size
level_count (Compressed level) = length level.coordinates.items

abbrev pub level_children : Level → List (List (ℕ × ℕ))
level_children (Dense level) = dense_children level.size level.parents
level_children (Compressed level) = fibers level.segments.items level.coordinates.items

-- the children of these parents by ascending pairs of parent and coordinate
abbrev pub pair_children : List (ℕ × ℕ) → ℕ → List (List (ℕ × ℕ))
pair_children pairs parents = fibers (map (before pairs) (below (parents + 1))) (map (λ (x : ℕ × ℕ). x.1) pairs)
