use Rattle.block_core.specs.Kind.{UnionKind}
use Rattle.merge_blocks.proofs.MergeStands.{sits-put}
use Rattle.merge_blocks.proofs.union_block.UnionerBlockStep.did_put.Goals as goal

pub returns-clause-moved : goal.returns-clause-moved
returns-clause-moved c = λ s n port t h at. sits-put UnionKind _ _ s n port t c.put.ensures.steps c.put.ensures.left c.put.ensures.right at h
