use Rattle.std.proofs.Common.{◌≡◌}
use Rattle.block_threads.specs.Ports.{channels_of, HasLost}
use Rattle.block_threads.proofs.Ends.{EndedBelow}
use Rattle.block_threads.proofs.hands.drain_all.Given as goal

abbrev pub invariant-loop-rx : goal.invariant-loop-rx
invariant-loop-rx g l = record {
  same : channels_of l.ins ≡ channels_of l.fn.ins;
  ended : EndedBelow g.W.Streams.streams l.rx-index l.ins;
  lost : HasLost l.fn.ins → HasLost l.ins;
}
