use Rattle.std.proofs.Common.{◌≡◌, ◌++◌, length, map}
use Rattle.std.specs.List.{range_with_len}
use Rattle.custard_lower.specs.DraftFans.{port_channel}
use Rattle.custard_lower.proofs.wiring.push_outputs.Given as goal

abbrev pub invariant-loop-port : goal.invariant-loop-port
invariant-loop-port l =
    l.channels
    ≡ l.initial.channels ++ map (port_channel l.fans (length l.initial.channels) l.block l.labels) (range_with_len 0 l.port)
