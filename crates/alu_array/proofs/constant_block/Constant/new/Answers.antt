use Rattle.alu_array.proofs.ChangeRuns.{constant-starts}
use Rattle.alu_array.proofs.constant_block.Constant.new.Goals as goal

pub returns-clause-starts : goal.returns-clause-starts
returns-clause-starts c = constant-starts _
