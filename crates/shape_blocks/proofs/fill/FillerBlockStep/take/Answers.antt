use Rattle.shape_blocks.proofs.FillRuns.{fill-take}
use Rattle.shape_blocks.proofs.fill.FillerBlockStep.take.Goals as goal

pub returns-clause-moved : goal.returns-clause-moved
returns-clause-moved c = λ s n h at. fill-take _ _ s n _ _ c.took.ensures.steps c.took.ensures.payloads at h
