use Rattle.shape_blocks.proofs.FillRuns.{fill-put}
use Rattle.shape_blocks.proofs.fill.FillerBlockStep.did_put.Goals as goal

pub returns-clause-moved : goal.returns-clause-moved
returns-clause-moved c = λ s n port t h at. fill-put _ _ s n port t c.put.ensures.steps c.put.ensures.payloads at h
