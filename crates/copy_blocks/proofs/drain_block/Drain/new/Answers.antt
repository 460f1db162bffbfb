use Rattle.copy_blocks.proofs.DrainRuns.{drain-starts}
use Rattle.copy_blocks.proofs.drain_block.Drain.new.Goals as goal

pub returns-clause-starts : goal.returns-clause-starts
returns-clause-starts c = drain-starts
