use Rattle.block_threads.proofs.Giving.{FreshBelow}
use Rattle.block_threads.proofs.wires.Wires.new.Given as goal

abbrev pub invariant-loop-channel : goal.invariant-loop-channel
invariant-loop-channel g l = record {
  senders : FreshBelow l.channel l.senders.items;
  receivers : FreshBelow l.channel l.receivers.items;
}
