use Rattle.scalar_reducer.proofs.ScalarRuns.{scalar-starts}
use Rattle.scalar_reducer.proofs.scalar.ScalarReducer.new.Goals as goal

pub returns-clause-starts : goal.returns-clause-starts
returns-clause-starts c = scalar-starts
