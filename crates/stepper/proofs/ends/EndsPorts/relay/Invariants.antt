use Rattle.std.proofs.Common.{◌≡◌}
use Rattle.plays.specs.Rest.{SameEnds}
use Rattle.plays.specs.Rest.{RelayedTo}
use Rattle.stepper.specs.EndsView.{seen}
use Rattle.stepper.proofs.ends.EndsPorts.relay.Given as goal

abbrev pub invariant-loop-i : goal.invariant-loop-i
invariant-loop-i g l = record {
  same_queues : l.self.queues.ghost_name ≡ l.fn.self.queues.ghost_name;
  same_tap : l.self.tap.ghost_name ≡ l.fn.self.tap.ghost_name;
  same_ends : SameEnds (seen g.T.Tap l.fn.self) (seen g.T.Tap l.self);
  relayed : RelayedTo (seen g.T.Tap l.fn.self) l.from l.to l.out l.i (seen g.T.Tap l.self);
}
