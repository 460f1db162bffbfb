use Rattle.std.proofs.Common.{◌≡◌}
use Rattle.std.specs.List.{flat_map, range_with_len}
use Rattle.custard_lower.specs.DraftGraph.{reads_at}
use Rattle.custard_lower.proofs.fans.reads_of.Given as goal

abbrev pub invariant-loop-block : goal.invariant-loop-block
invariant-loop-block l = l.reads.items ≡ flat_map (reads_at l.fn.made) (range_with_len 0 l.block)
