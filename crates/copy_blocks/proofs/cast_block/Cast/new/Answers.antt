use Rattle.copy_blocks.proofs.CastRuns.{cast-starts}
use Rattle.copy_blocks.proofs.cast_block.Cast.new.Goals as goal

pub returns-clause-starts : goal.returns-clause-starts
returns-clause-starts c = cast-starts _
