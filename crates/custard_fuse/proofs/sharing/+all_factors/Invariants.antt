use Rattle.std.proofs.Common.{length}
use Rattle.custard_fuse.proofs.sharing.+all_factors.Given as goal

abbrev pub decreases-all_factors : goal.decreases-all_factors
decreases-all_factors l = length l.plans.now
