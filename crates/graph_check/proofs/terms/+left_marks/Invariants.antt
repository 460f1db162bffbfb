use Rattle.std.proofs.Common.{length}
use Rattle.graph_check.proofs.terms.+left_marks.Given as goal

abbrev pub decreases-left_marks : goal.decreases-left_marks
decreases-left_marks l = length l.marks.now
