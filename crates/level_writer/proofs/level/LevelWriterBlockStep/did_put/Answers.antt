use Rattle.level_writer.proofs.LevelRuns.{level-put}
use Rattle.level_writer.proofs.level.LevelWriterBlockStep.did_put.Goals as goal

pub returns-clause-moved : goal.returns-clause-moved
returns-clause-moved c = λ s n port t h at. level-put _ _ _ _ _ s n port t at h
