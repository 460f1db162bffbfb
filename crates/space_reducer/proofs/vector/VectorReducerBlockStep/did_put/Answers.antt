use Rattle.block_core.proofs.Standing.{stands-put}
use Rattle.space_reducer.specs.VectorSteps.{vector_steps}
use Rattle.space_reducer.proofs.vector.VectorReducerBlockStep.did_put.Goals as goal

pub returns-clause-moved : goal.returns-clause-moved
returns-clause-moved c = λ s n port t h at. stands-put vector_steps _ _ _ s n port t c.put.ensures at h
