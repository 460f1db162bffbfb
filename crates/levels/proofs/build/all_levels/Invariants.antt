use Rattle.std.proofs.Common.{◌≡◌, ℕ, suc, ◌^◌, ◌≤◌, length}
use mathlib.Core.List.{map}
use Rattle.sam_model.specs.Lists.{below}
use Rattle.sam_model.specs.Tensors.{stored_prefixes}
use Rattle.sam_model.specs.Children.{children_of}
use Rattle.levels.specs.Placed.{Placed}
use Rattle.levels.specs.Rows.{of_rows}
use Rattle.levels.specs.Shown.{level_count, level_children}
use Rattle.levels.proofs.build.all_levels.Given as goal

abbrev pub invariant-loop-place : goal.invariant-loop-place
invariant-loop-place l = record {
  children : map level_children l.levels.items ≡ map (λ k. children_of (of_rows l.t l.rows) (suc k)) (below l.place);
  counts : map level_count l.levels.items ≡ map (λ k. length (stored_prefixes (of_rows l.t l.rows) (suc k))) (below l.place);
  placed : Placed (of_rows l.t l.rows) l.place l.at.count l.at.ranks.items;
  few : (k : ℕ) → k ≤ l.place → length (stored_prefixes (of_rows l.t l.rows) k) ≤ 2 ^ 24;
}
