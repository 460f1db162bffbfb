use Rattle.std.proofs.Common.{length}
use Rattle.program_file.proofs.accesses.+mismatched.Given as goal

abbrev pub decreases-mismatched : goal.decreases-mismatched
decreases-mismatched l = length l.names.now
