use Rattle.plays.proofs.Ends.{some-end}
use Rattle.plays.proofs.some_end.Goals as goal

pub returns : goal.returns
returns c = some-end
