use Rattle.std.proofs.Common.{length}
use Rattle.graph_check.proofs.terms.+left_after.Given as goal

abbrev pub decreases-left_after : goal.decreases-left_after
decreases-left_after l = length l.marks.now
