use Rattle.block_core.proofs.Standing.{stands-take}
use Rattle.shape_blocks.specs.DropValueSteps.{drop_value_steps}
use Rattle.shape_blocks.proofs.drop_value.ValueDropperBlockStep.take.Goals as goal

pub returns-clause-moved : goal.returns-clause-moved
returns-clause-moved c = λ s n h at. stands-take drop_value_steps _ _ _ s n _ _ c.took-self.ensures at h
