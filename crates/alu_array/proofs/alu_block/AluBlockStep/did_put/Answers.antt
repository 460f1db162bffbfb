use Rattle.block_core.proofs.Standing.{stands-put}
use Rattle.alu_array.specs.AluSteps.{alu_steps}
use Rattle.alu_array.proofs.alu_block.AluBlockStep.did_put.Goals as goal

pub returns-clause-moved : goal.returns-clause-moved
returns-clause-moved c = λ s n port t h at. stands-put (alu_steps _) _ _ _ s n port t c.put-self.ensures at h
