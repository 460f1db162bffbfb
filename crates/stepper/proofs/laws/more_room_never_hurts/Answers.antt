use Rattle.stepper.proofs.GraphLaws.{more-room-never-hurts}
use Rattle.stepper.proofs.laws.more_room_never_hurts.Goals as goal

pub returns : goal.returns
returns c = more-room-never-hurts
