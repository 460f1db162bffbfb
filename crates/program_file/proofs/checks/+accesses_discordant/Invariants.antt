use Rattle.std.proofs.Common.{length}
use Rattle.program_file.proofs.checks.+accesses_discordant.Given as goal

abbrev pub decreases-accesses_discordant : goal.decreases-accesses_discordant
decreases-accesses_discordant l = length l.accesses.now
