use Rattle.std.proofs.Common.{◌≡◌}
use Rattle.block_threads.proofs.Taking.{TakenTo}
use Rattle.block_threads.proofs.wires.ends_of.Given as goal

abbrev pub invariant-loop-channel : goal.invariant-loop-channel
invariant-loop-channel g l = record {
  same : l.channel-items ≡ l.fn.channels;
  taken : TakenTo l.fn.ends.items l.fn.channels l.channel-index l.ends.items l.taken.items;
}
