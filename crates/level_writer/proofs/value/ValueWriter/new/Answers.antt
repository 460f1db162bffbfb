use Rattle.level_writer.proofs.WriterRuns.{values-start}
use Rattle.level_writer.proofs.value.ValueWriter.new.Goals as goal

pub returns-clause-starts : goal.returns-clause-starts
returns-clause-starts c = rw c.new.ensures values-start
