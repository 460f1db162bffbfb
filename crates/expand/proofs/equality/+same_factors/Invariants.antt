use Rattle.std.proofs.Common.{length}
use Rattle.expand.proofs.equality.+same_factors.Given as goal

abbrev pub decreases-same_factors : goal.decreases-same_factors
decreases-same_factors l = length l.a.now
