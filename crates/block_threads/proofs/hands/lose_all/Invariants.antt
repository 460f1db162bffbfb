use Rattle.std.proofs.Common.{◌≡◌, ◌≤◌, ℕ}
use Rattle.std.specs.Prelude.{Some, slice_get}
use Rattle.ruled_wires.specs.Ends.{End}
use Rattle.block_threads.specs.Ports.{channels_of, HasRoom}
use Rattle.block_threads.proofs.Ends.{EndedBelow}
use Rattle.block_threads.proofs.hands.lose_all.Given as goal

abbrev pub invariant-loop-tx : goal.invariant-loop-tx
invariant-loop-tx g l = record {
  same : channels_of l.outs ≡ channels_of l.fn.outs;
  ended : EndedBelow g.W.Streams.streams l.tx-index l.outs;
  room : (p : ℕ) (e : End) → l.tx-index ≤ p → slice_get l.outs p ≡ Some e → HasRoom e;
}
