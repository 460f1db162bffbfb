use Rattle.std.proofs.Common.{refl}
use Rattle.block_core.proofs.Standing.{stands-take}
use Rattle.alu_array.specs.RootSteps.{root_steps}
use Rattle.alu_array.proofs.root_block.RootBlockStep.take.Goals as goal

pub returns-clause-moved : goal.returns-clause-moved
returns-clause-moved c = λ s n h at. stands-take root_steps _ _ _ s n _ _ refl at h
