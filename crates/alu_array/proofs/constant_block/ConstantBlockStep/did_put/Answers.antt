use Rattle.block_core.proofs.Standing.{stands-put}
use Rattle.alu_array.specs.ChangeSteps.{change_steps}
use Rattle.alu_array.proofs.constant_block.ConstantBlockStep.did_put.Goals as goal

pub returns-clause-moved : goal.returns-clause-moved
returns-clause-moved c = λ s n port t h at. stands-put (change_steps (λ _. c.args.self.now.value)) _ _ _ s n port t c.put-self.ensures at h
