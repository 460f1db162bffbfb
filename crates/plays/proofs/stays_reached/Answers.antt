use Rattle.plays.proofs.Always.{stays-reached}
use Rattle.plays.proofs.stays_reached.Goals as goal

pub returns : goal.returns
returns c = stays-reached
