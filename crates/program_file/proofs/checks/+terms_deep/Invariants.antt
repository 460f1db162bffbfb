use Rattle.std.proofs.Common.{length}
use Rattle.program_file.proofs.checks.+terms_deep.Given as goal

abbrev pub decreases-terms_deep : goal.decreases-terms_deep
decreases-terms_deep l = length l.terms.now
