use Rattle.std.proofs.Common.{length}
use Rattle.graph_check.proofs.merges.+are_ranks_of_both.Given as goal

abbrev pub decreases-are_ranks_of_both : goal.decreases-are_ranks_of_both
decreases-are_ranks_of_both l = length l.labels.now
