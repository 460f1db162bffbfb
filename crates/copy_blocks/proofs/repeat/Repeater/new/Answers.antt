use Rattle.copy_blocks.proofs.RepeatRuns.{repeat-starts}
use Rattle.copy_blocks.proofs.repeat.Repeater.new.Goals as goal

pub returns-clause-starts : goal.returns-clause-starts
returns-clause-starts c = repeat-starts
