use Rattle.stepper.proofs.Stalling.{stand_end}
use Rattle.stepper.proofs.machine.Machine.finish.Goals as goal

pub returns-clause-blocks_end : goal.returns-clause-blocks_end
returns-clause-blocks_end g c = λ z storages gr caps s h.
    stand_end g.B.BlockStep storages gr s c.run.new.self.blocks h.standing (c.ending.ensures.finished z storages gr caps s h)
