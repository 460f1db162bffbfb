use Rattle.std.proofs.Common.{length, ◌-◌, ◌<◌, false}
use Rattle.plays.specs.Told.{HasLists}
use Rattle.stepper.specs.Steps.{SameShape}
use Rattle.stepper.specs.AllMoves.{all_moves}
use Rattle.stepper.specs.Bursting.{OnwardsBy, SomewhereFar}
use Rattle.stepper.proofs.machine.Machine.run.Given as goal

abbrev pub invariant-loop-share : goal.invariant-loop-share
invariant-loop-share g l = record {
  onwards : OnwardsBy g.B.BlockStep l.fn.self (g.T.Tap.told l.fn.tap) l.self (g.T.Tap.told l.tap) false;
  far : ∥ (SomewhereFar g.B.BlockStep l.self l.rounds.total) ∥₁;
  parts : 0 < l.share.parts;
  same_shape : SameShape l.fn.self l.self;
  lists : HasLists (length l.fn.self.queues) (g.T.Tap.told l.tap);
}

abbrev pub decreases-loop-share : goal.decreases-loop-share
decreases-loop-share g l = all_moves g.B.BlockStep.kind l.self - l.rounds.total
