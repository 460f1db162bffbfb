use Rattle.std.proofs.Common.{◌≡◌, ◌++◌, map}
use Rattle.std.specs.List.{range_with_len}
use Rattle.custard_lower.specs.DraftGraph.{port_read}
use Rattle.custard_lower.proofs.fans.push_reads.Given as goal

abbrev pub invariant-loop-port : goal.invariant-loop-port
invariant-loop-port l = l.reads.items ≡ l.initial.reads.items ++ map (port_read l.fn.block l.fn.ins) (range_with_len 0 l.port)
