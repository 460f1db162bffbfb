use Rattle.std.proofs.Common.{refl}
use Rattle.block_core.proofs.Standing.{stands-put}
use Rattle.copy_blocks.specs.DrainSteps.{drain_steps}
use Rattle.copy_blocks.proofs.drain_block.DrainBlockStep.did_put.Goals as goal

pub returns-clause-moved : goal.returns-clause-moved
returns-clause-moved c = λ s n port t h at. stands-put drain_steps _ _ _ s n port t refl at h
