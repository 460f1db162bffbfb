use Rattle.std.proofs.Common.{length}
use Rattle.graph_check.proofs.terms.+levels_before.Given as goal

abbrev pub decreases-levels_before : goal.decreases-levels_before
decreases-levels_before l = length l.has.now
