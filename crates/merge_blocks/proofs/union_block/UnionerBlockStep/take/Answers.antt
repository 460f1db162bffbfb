use Rattle.block_core.specs.Kind.{UnionKind}
use Rattle.merge_blocks.proofs.MergeStands.{sits-take}
use Rattle.merge_blocks.proofs.union_block.UnionerBlockStep.take.Goals as goal

pub returns-clause-moved : goal.returns-clause-moved
returns-clause-moved c = λ s n h at. sits-take UnionKind _ _ s n _ _ c.took.ensures.steps c.took.ensures.left c.took.ensures.right at h
