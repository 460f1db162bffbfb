use Rattle.std.proofs.Common.{length}
use Rattle.program_file.proofs.checks.+factors_deep.Given as goal

abbrev pub decreases-factors_deep : goal.decreases-factors_deep
decreases-factors_deep l = length l.factors.now
