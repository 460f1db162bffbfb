use Rattle.std.proofs.Common.{rules}
use Rattle.space_reducer.proofs.MatrixRuns.{matrix-starts}
use Rattle.space_reducer.proofs.matrix.MatrixReducer.new.Goals as goal

pub returns-clause-starts : goal.returns-clause-starts
returns-clause-starts c = matrix-starts _ (search rules)
