use Rattle.std.proofs.Common.{◌≡◌, map, length}
use Rattle.std.specs.List.{range_with_len}
use Rattle.custard_lower.specs.DraftGraph.{ending, first_copy, fan_of}
use Rattle.custard_lower.proofs.fans.fans_of.Given as goal

abbrev pub invariant-loop-readers : goal.invariant-loop-readers
invariant-loop-readers l = record {
  fans : l.fans ≡ map (fan_of l.fn.made) (range_with_len 0 (length l.yielded));
  ending : l.ending ≡ ending l.fn.made (length l.yielded);
  first_copy : l.first_copy ≡ first_copy l.fn.made (length l.yielded);
}
