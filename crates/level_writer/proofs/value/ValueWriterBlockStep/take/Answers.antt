use Rattle.level_writer.proofs.WriterRuns.{values-take}
use Rattle.level_writer.proofs.value.ValueWriterBlockStep.take.Goals as goal

pub returns-clause-moved : goal.returns-clause-moved
returns-clause-moved c = λ s n h at. values-take _ _ _ _ s n _ _ c.in_ok-keep.ensures.vals c.in_ok-keep.ensures.ended at h
