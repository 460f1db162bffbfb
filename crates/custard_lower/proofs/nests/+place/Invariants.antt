use Rattle.std.proofs.Common.{length}
use Rattle.custard_lower.proofs.nests.+place.Given as goal

abbrev pub decreases-place : goal.decreases-place
decreases-place l = length l.factors.now
