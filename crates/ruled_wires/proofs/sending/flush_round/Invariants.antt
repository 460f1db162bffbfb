use Rattle.std.proofs.Common.{◌≡◌, ℕ, ◌<◌, true, get_or}
use Rattle.ruled_wires.specs.Ends.{End, IsEmptied}
use Rattle.ruled_wires.proofs.Rounds.{RoundTo}
use Rattle.ruled_wires.proofs.sending.flush_round.Given as goal

abbrev pub invariant-loop-tx : goal.invariant-loop-tx
invariant-loop-tx g l = record {
  round : RoundTo l.tx-index l.fn.outs l.outs;
  empty : l.emptied ≡ true → (k : ℕ) (d : End) → k < l.tx-index → IsEmptied (get_or l.outs k d);
}
