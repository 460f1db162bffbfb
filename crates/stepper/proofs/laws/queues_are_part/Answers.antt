use Rattle.stepper.proofs.GraphLaws.{queues-are-part}
use Rattle.stepper.proofs.laws.queues_are_part.Goals as goal

pub returns : goal.returns
returns c = queues-are-part
