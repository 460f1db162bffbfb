use Rattle.std.proofs.Common.{length}
use Rattle.plays.specs.Told.{HasLists}
use Rattle.stepper.specs.Steps.{SameShape}
use Rattle.stepper.specs.Bursting.{OnwardsBy}
use Rattle.stepper.proofs.machine.Machine.pass.Given as goal

abbrev pub invariant-loop-n : goal.invariant-loop-n
invariant-loop-n g l = record {
  onwards : OnwardsBy g.B.BlockStep l.fn.self (g.T.Tap.told l.fn.tap) l.self (g.T.Tap.told l.tap) l.moved;
  same_shape : SameShape l.fn.self l.self;
  lists : HasLists (length l.fn.self.queues) (g.T.Tap.told l.tap);
}
