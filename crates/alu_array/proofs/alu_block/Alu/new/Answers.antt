use Rattle.alu_array.proofs.AluRuns.{alu-starts}
use Rattle.alu_array.proofs.alu_block.Alu.new.Goals as goal

pub returns-clause-starts : goal.returns-clause-starts
returns-clause-starts c = alu-starts _
