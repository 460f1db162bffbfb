use Rattle.stepper.proofs.GraphLaws.{one-end-of-graphs}
use Rattle.stepper.proofs.laws.one_end.Goals as goal

pub returns : goal.returns
returns c = one-end-of-graphs
