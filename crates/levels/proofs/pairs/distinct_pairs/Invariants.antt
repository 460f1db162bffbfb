use Rattle.std.proofs.Common.{◌≡◌, ◌^◌, ◌<◌, ◌≤◌, [], length, take}
use Rattle.std.specs.Prelude.{slice_index_or}
use mathlib.Core.List.{map}
use Rattle.sam_base.specs.Each.{Each}
use Rattle.levels.specs.Pairs.{with_pairs}
use Rattle.levels.specs.Rows.{row_pairs}
use Rattle.levels.proofs.pairs.distinct_pairs.Given as goal

abbrev pub invariant-loop-n : goal.invariant-loop-n
invariant-loop-n l = record {
  pairs : l.pairs.items ≡ with_pairs [] (take l.n (row_pairs l.parents l.place l.rows));
  few : length l.pairs.items ≤ 2 ^ 24;
  ranks : Each (λ r. r < length l.pairs.items) l.ranks.items;
  placed : map (λ r. slice_index_or l.pairs.items r (0, 0)) l.ranks.items ≡ take l.n (row_pairs l.parents l.place l.rows);
}
