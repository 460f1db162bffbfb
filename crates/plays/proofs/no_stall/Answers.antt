use Rattle.plays.proofs.Finishing.{no-stall}
use Rattle.plays.proofs.no_stall.Goals as goal

pub returns : goal.returns
returns c = no-stall
