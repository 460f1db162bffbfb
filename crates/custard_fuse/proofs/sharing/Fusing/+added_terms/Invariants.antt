use Rattle.std.proofs.Common.{length}
use Rattle.custard_fuse.proofs.sharing.Fusing.+added_terms.Given as goal

abbrev pub decreases-added_terms : goal.decreases-added_terms
decreases-added_terms l = length l.plans.now
