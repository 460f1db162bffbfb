use Rattle.std.proofs.Common.{length}
use Rattle.custard_fuse.proofs.sharing.Fusing.+scan_terms.Given as goal

abbrev pub decreases-scan_terms : goal.decreases-scan_terms
decreases-scan_terms l = length l.plans.now
