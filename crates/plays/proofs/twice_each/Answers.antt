use Rattle.plays.proofs.Count.{twice-each}
use Rattle.plays.proofs.twice_each.Goals as goal

pub returns : goal.returns
returns c = twice-each
