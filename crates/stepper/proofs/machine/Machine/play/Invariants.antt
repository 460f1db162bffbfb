use Rattle.std.proofs.Common.{take, length}
use Rattle.plays.specs.Told.{HasLists}
use Rattle.stepper.specs.Steps.{SameShape}
use Rattle.stepper.specs.Runs.{Played}
use Rattle.stepper.proofs.machine.Machine.play.Given as goal

abbrev pub invariant-loop-block : goal.invariant-loop-block
invariant-loop-block g l =
    Played g.B.BlockStep (take l.block-index l.block-items) l.fn.self (g.T.Tap.told l.fn.tap) l.self (g.T.Tap.told l.tap)
    × SameShape l.fn.self l.self
    × HasLists (length l.fn.self.queues) (g.T.Tap.told l.tap)
