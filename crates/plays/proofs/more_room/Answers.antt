use Rattle.plays.proofs.Ends.{more-room}
use Rattle.plays.proofs.more_room.Goals as goal

pub returns : goal.returns
returns c = more-room
