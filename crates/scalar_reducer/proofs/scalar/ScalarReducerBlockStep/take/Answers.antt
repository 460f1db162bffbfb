use Rattle.block_core.proofs.Standing.{stands-take}
use Rattle.scalar_reducer.specs.ScalarSteps.{scalar_steps}
use Rattle.scalar_reducer.proofs.scalar.ScalarReducerBlockStep.take.Goals as goal

pub returns-clause-moved : goal.returns-clause-moved
returns-clause-moved c = λ s n h at. stands-take scalar_steps _ _ _ s n _ _ c.took-self.ensures at h
