use Rattle.std.proofs.Common.{length}
use Rattle.sam_model.proofs.acceptance.+variables_fit.Given as goal

abbrev pub decreases-variables_fit : goal.decreases-variables_fit
decreases-variables_fit l = length l.vars.now
