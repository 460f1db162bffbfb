use Rattle.std.proofs.Common.{length}
use Rattle.graph_check.proofs.terms.+free_marks.Given as goal

abbrev pub decreases-free_marks : goal.decreases-free_marks
decreases-free_marks l = length l.marks.now
