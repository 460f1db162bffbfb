use Rattle.block_core.proofs.Standing.{stands-put}
use Rattle.scalar_reducer.specs.ScalarSteps.{scalar_steps}
use Rattle.scalar_reducer.proofs.scalar.ScalarReducerBlockStep.did_put.Goals as goal

pub returns-clause-moved : goal.returns-clause-moved
returns-clause-moved c = λ s n port t h at. stands-put scalar_steps _ _ _ s n port t c.put-self.ensures at h
