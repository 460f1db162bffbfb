use Rattle.std.proofs.Common.{length}
use Rattle.custard_fuse.proofs.sharing.Fusing.+unite.Given as goal

abbrev pub decreases-unite : goal.decreases-unite
decreases-unite l = length l.plans.now
