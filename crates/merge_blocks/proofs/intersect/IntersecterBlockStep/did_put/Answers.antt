use Rattle.block_core.specs.Kind.{IntersectKind}
use Rattle.merge_blocks.proofs.MergeStands.{sits-put}
use Rattle.merge_blocks.proofs.intersect.IntersecterBlockStep.did_put.Goals as goal

pub returns-clause-moved : goal.returns-clause-moved
returns-clause-moved c = λ s n port t h at. sits-put IntersectKind _ _ s n port t c.put.ensures.steps c.put.ensures.left c.put.ensures.right at h
