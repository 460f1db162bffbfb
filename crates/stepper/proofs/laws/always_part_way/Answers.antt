use Rattle.stepper.proofs.GraphLaws.{always-part-way}
use Rattle.stepper.proofs.laws.always_part_way.Goals as goal

pub returns : goal.returns
returns c = always-part-way
