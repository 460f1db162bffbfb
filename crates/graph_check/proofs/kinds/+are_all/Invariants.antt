use Rattle.std.proofs.Common.{length}
use Rattle.graph_check.proofs.kinds.+are_all.Given as goal

abbrev pub decreases-are_all : goal.decreases-are_all
decreases-are_all l = length l.labels.now
