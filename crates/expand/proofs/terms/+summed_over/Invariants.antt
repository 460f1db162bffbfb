use Rattle.std.proofs.Common.{length}
use Rattle.expand.proofs.terms.+summed_over.Given as goal

abbrev pub decreases-summed_over : goal.decreases-summed_over
decreases-summed_over l = length l.vars.now
