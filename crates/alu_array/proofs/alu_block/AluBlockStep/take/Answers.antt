use Rattle.block_core.proofs.Standing.{stands-take}
use Rattle.alu_array.specs.AluSteps.{alu_steps}
use Rattle.alu_array.proofs.alu_block.AluBlockStep.take.Goals as goal

pub returns-clause-moved : goal.returns-clause-moved
returns-clause-moved c = λ s n h at. stands-take (alu_steps _) _ _ _ s n _ _ c.took-self.ensures at h
