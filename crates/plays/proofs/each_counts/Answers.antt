use Rattle.plays.proofs.Count.{each-counts}
use Rattle.plays.proofs.each_counts.Goals as goal

pub returns : goal.returns
returns c = each-counts
