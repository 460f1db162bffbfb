use Rattle.block_core.proofs.Standing.{stands-put}
use Rattle.shape_blocks.specs.DropFiberSteps.{drop_fiber_steps}
use Rattle.shape_blocks.proofs.drop_fiber.FiberDropperBlockStep.did_put.Goals as goal

pub returns-clause-moved : goal.returns-clause-moved
returns-clause-moved c = λ s n port t h at. stands-put drop_fiber_steps _ _ _ s n port t c.put-self.ensures at h
