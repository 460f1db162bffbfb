use Rattle.expand.proofs.Nothing.{nothing-is-zero}
use Rattle.expand.proofs.Closing.{closed-is-listed}
use Rattle.expand.proofs.laws.results_close.Goals as goal

pub returns-clause-zero : goal.returns-clause-zero
returns-clause-zero c = nothing-is-zero

pub returns-clause-closed : goal.returns-clause-closed
returns-clause-closed c = closed-is-listed
