use Rattle.level_writer.proofs.WriterRuns.{values-put}
use Rattle.level_writer.proofs.value.ValueWriterBlockStep.did_put.Goals as goal

pub returns-clause-moved : goal.returns-clause-moved
returns-clause-moved c = λ s n port t h at. values-put _ _ s n port t at h
