use Rattle.std.proofs.Common.{◌≡◌, ℕ, ◌+◌, ◌<◌, ◌≤◌, length, drop}
use Rattle.std.specs.Prelude.{slice_index}
use Rattle.sam_model.specs.Lists.{items_at}
use Rattle.levels.specs.Keys.{weight}
use Rattle.levels.proofs.keys.weights_of.Given as goal

abbrev pub invariant-loop-level : goal.invariant-loop-level
invariant-loop-level l = record {
  within : l.level ≤ length l.t.order;
  long : length l.weights ≡ 8;
  all : l.all ≡ weight (drop l.level (items_at l.t.dims l.t.order));
  each : (k : ℕ) → l.level ≤ k → k < length l.t.order → slice_index l.weights k ≡ weight (drop (k + 1) (items_at l.t.dims l.t.order));
  some : (k : ℕ) → l.level ≤ k → k < length l.t.order → 0 < slice_index l.weights k;
}

abbrev pub decreases-loop-level : goal.decreases-loop-level
decreases-loop-level l = l.level
