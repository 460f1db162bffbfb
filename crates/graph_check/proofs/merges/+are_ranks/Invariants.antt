use Rattle.std.proofs.Common.{length}
use Rattle.graph_check.proofs.merges.+are_ranks.Given as goal

abbrev pub decreases-are_ranks : goal.decreases-are_ranks
decreases-are_ranks l = length l.named.now
