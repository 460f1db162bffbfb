use Rattle.std.proofs.Common.{◌≡◌, ◌≤◌, ◌+◌, ◌-◌, drop}
use Rattle.stream_model.specs.Masks.{levels_before}
use Rattle.custard_lower.proofs.nests.count_levels.Given as goal

abbrev pub invariant-loop-i : goal.invariant-loop-i
invariant-loop-i l = record {
  counted : l.levels + levels_before (drop l.i l.has) (l.d - l.i) ≡ levels_before l.has l.d;
  few : l.levels ≤ l.i;
}
