use Rattle.std.proofs.Common.{◌≡◌, ◌++◌, map}
use Rattle.std.specs.List.{range_with_len}
use Rattle.custard_lower.specs.Fans.{copy_from}
use Rattle.custard_lower.proofs.wiring.push_copies.Given as goal

abbrev pub invariant-loop-port : goal.invariant-loop-port
invariant-loop-port l = l.channels ≡ l.initial.channels ++ map (copy_from l.fan l.label) (range_with_len 0 l.port)
