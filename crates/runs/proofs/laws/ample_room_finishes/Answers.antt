use Rattle.runs.proofs.RunLaws.{ample-room-finishes}
use Rattle.runs.proofs.laws.ample_room_finishes.Goals as goal

pub returns : goal.returns
returns c = ample-room-finishes
