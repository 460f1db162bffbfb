use Rattle.stepper.proofs.GraphLaws.{move-count}
use Rattle.stepper.proofs.laws.move_count.Goals as goal

pub returns : goal.returns
returns c = move-count
