use Rattle.std.proofs.Common.{◌≡◌, ◌+◌, ◌*◌, take}
use mathlib.Core.List.{map}
use Rattle.levels.specs.Rows.{row_pairs}
use Rattle.levels.proofs.build.dense_level.Given as goal

abbrev pub invariant-loop-n : goal.invariant-loop-n
invariant-loop-n l = l.ranks.items ≡ map (λ x. x.0 * l.size + x.1) (take l.n (row_pairs l.at.ranks.items l.place l.rows))
