use Rattle.stepper.proofs.GraphLaws.{graphs-are-wired}
use Rattle.stepper.proofs.laws.graphs_are_wired.Goals as goal

pub returns : goal.returns
returns c = graphs-are-wired
