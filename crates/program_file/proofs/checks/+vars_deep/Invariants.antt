use Rattle.std.proofs.Common.{length}
use Rattle.program_file.proofs.checks.+vars_deep.Given as goal

abbrev pub decreases-vars_deep : goal.decreases-vars_deep
decreases-vars_deep l = length l.vars.now
