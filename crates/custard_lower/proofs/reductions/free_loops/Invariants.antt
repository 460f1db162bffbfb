use Rattle.std.proofs.Common.{◌≡◌, ◌≤◌, ◌+◌, drop}
use Rattle.label_rules.specs.Plans.{free_marks}
use Rattle.custard_lower.proofs.reductions.free_loops.Given as goal

abbrev pub invariant-loop-mark : goal.invariant-loop-mark
invariant-loop-mark l = record {
  counted : l.free + free_marks (drop l.mark-index l.on_left) ≡ free_marks l.on_left;
  few : l.free ≤ l.mark-index;
}
