use Rattle.std.proofs.Common.{length}
use Rattle.custard_fuse.proofs.sharing.+rank_labels.Given as goal

abbrev pub decreases-rank_labels : goal.decreases-rank_labels
decreases-rank_labels l = length l.plans.now
