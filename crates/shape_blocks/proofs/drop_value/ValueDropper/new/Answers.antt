use Rattle.shape_blocks.proofs.DropValueRuns.{drop-value-starts}
use Rattle.shape_blocks.proofs.drop_value.ValueDropper.new.Goals as goal

pub returns-clause-starts : goal.returns-clause-starts
returns-clause-starts c = drop-value-starts
