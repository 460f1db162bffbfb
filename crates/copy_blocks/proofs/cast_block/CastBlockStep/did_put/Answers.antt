use Rattle.block_core.proofs.Standing.{stands-put}
use Rattle.copy_blocks.specs.CastSteps.{cast_steps}
use Rattle.copy_blocks.proofs.cast_block.CastBlockStep.did_put.Goals as goal

pub returns-clause-moved : goal.returns-clause-moved
returns-clause-moved c = λ s n port t h at. stands-put (cast_steps _) _ _ _ s n port t c.put-self.ensures at h
