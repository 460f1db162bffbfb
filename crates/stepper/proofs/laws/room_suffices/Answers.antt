use Rattle.stepper.proofs.GraphLaws.{room-suffices}
use Rattle.stepper.proofs.laws.room_suffices.Goals as goal

pub returns : goal.returns
returns c = room-suffices
