use Rattle.block_core.proofs.Standing.{stands-take}
use Rattle.copy_blocks.specs.DrainSteps.{drain_steps}
use Rattle.copy_blocks.proofs.drain_block.DrainBlockStep.take.Goals as goal

pub returns-clause-moved : goal.returns-clause-moved
returns-clause-moved c = λ s n h at. stands-take drain_steps _ _ _ s n _ _ c.took-self.ensures at h
