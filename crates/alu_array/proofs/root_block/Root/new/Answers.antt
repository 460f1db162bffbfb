use Rattle.alu_array.proofs.RootRuns.{root-starts}
use Rattle.alu_array.proofs.root_block.Root.new.Goals as goal

pub returns-clause-starts : goal.returns-clause-starts
returns-clause-starts c = root-starts
