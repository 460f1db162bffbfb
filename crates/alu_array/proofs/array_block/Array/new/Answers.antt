use Rattle.alu_array.proofs.ChangeRuns.{array-starts}
use Rattle.alu_array.proofs.array_block.Array.new.Goals as goal

pub returns-clause-starts : goal.returns-clause-starts
returns-clause-starts c = array-starts _
