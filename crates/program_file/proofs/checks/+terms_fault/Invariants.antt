use Rattle.std.proofs.Common.{length}
use Rattle.program_file.proofs.checks.+terms_fault.Given as goal

abbrev pub decreases-terms_fault : goal.decreases-terms_fault
decreases-terms_fault l = length l.terms.now
