use Rattle.std.proofs.Common.{◌≡◌, take}
use mathlib.Core.List.{map}
use Rattle.sam_model.specs.Lists.{below}
use Rattle.levels.specs.Rows.{sum_at, ranked_values}
use Rattle.levels.proofs.build.values_at.Given as goal

abbrev pub invariant-loop-n : goal.invariant-loop-n
invariant-loop-n l = l.values.items ≡ map (sum_at (take l.n (ranked_values l.at.ranks.items l.rows))) (below l.at.count)
