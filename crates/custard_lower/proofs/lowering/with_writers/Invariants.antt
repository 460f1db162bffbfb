use Rattle.std.proofs.Common.{◌≡◌, ◌++◌, map}
use Rattle.std.specs.List.{range_with_len}
use Rattle.custard_lower.specs.Lowering.{level_writer}
use Rattle.custard_lower.proofs.lowering.with_writers.Given as goal

abbrev pub invariant-loop-d : goal.invariant-loop-d
invariant-loop-d l = l.made ≡ l.fn.levels.made ++ map (level_writer l.fn.levels.coordinates) (range_with_len 0 l.d)
