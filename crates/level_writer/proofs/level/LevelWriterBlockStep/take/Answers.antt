use Rattle.level_writer.proofs.LevelRuns.{level-take}
use Rattle.level_writer.proofs.level.LevelWriterBlockStep.take.Goals as goal

pub returns-clause-moved : goal.returns-clause-moved
returns-clause-moved c =
    let k = c.in_ok-keep.ensures in
    λ s n h at. level-take _ _ _ _ _ _ _ _ _ _ s n _ _ k.level k.segs k.crds k.filled k.ended at h
