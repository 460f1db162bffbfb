use Rattle.plays.proofs.Ends.{one-end}
use Rattle.plays.proofs.one_end.Goals as goal

pub returns : goal.returns
returns c = one-end
