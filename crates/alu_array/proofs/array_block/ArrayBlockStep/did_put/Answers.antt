use Rattle.block_core.specs.Change.{referenced_value}
use Rattle.block_core.proofs.Standing.{stands-put}
use Rattle.alu_array.specs.ChangeSteps.{change_steps}
use Rattle.alu_array.proofs.array_block.ArrayBlockStep.did_put.Goals as goal

pub returns-clause-moved : goal.returns-clause-moved
returns-clause-moved c = λ s n port t h at. stands-put (change_steps (referenced_value c.args.self.now.storage.now.values)) _ _ _ s n port t c.put-self.ensures at h
