use Rattle.std.proofs.Common.{length}
use Rattle.graph_check.proofs.choices.+same_kept.Given as goal

abbrev pub decreases-same_kept : goal.decreases-same_kept
decreases-same_kept l = length l.marks.now
