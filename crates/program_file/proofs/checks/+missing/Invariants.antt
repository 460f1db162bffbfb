use Rattle.std.proofs.Common.{length}
use Rattle.program_file.proofs.checks.+missing.Given as goal

abbrev pub decreases-missing : goal.decreases-missing
decreases-missing l = length l.left.now
