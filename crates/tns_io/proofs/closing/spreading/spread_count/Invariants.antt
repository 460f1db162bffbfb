use Rattle.std.proofs.Common.{◌≡◌, ◌≤◌, ◌-◌, length, drop}
use Rattle.sam_model.specs.Lists.{items_at}
use Rattle.tns_io.specs.Closing.{multiplied}
use Rattle.tns_io.proofs.closing.spreading.spread_count.Given as goal

abbrev pub invariant-loop-count : goal.invariant-loop-count
invariant-loop-count l = record {
  there : l.level ≤ length l.declared.order;
  same : multiplied l.count (drop l.level (items_at l.declared.dims l.declared.order)) ≡ multiplied l.paths (drop l.from (items_at l.declared.dims l.declared.order));
}

abbrev pub decreases-loop-count : goal.decreases-loop-count
decreases-loop-count l = length l.declared.order - l.level
