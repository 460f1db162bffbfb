use Rattle.level_writer.proofs.LevelRuns.{level-start}
use Rattle.level_writer.proofs.level.LevelWriter.new.Goals as goal

pub returns-clause-starts : goal.returns-clause-starts
returns-clause-starts c = rw (c.in_ok-push.ensures.ok, c.new-segs.ensures, c.new.ensures) (level-start c.args.level)
