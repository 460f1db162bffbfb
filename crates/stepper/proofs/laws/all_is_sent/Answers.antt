use Rattle.stepper.proofs.GraphLaws.{all-is-sent}
use Rattle.stepper.proofs.laws.all_is_sent.Goals as goal

pub returns : goal.returns
returns c = all-is-sent
