use Rattle.std.proofs.Common.{length}
use Rattle.program_file.proofs.accesses.+add_variables.Given as goal

abbrev pub decreases-add_variables : goal.decreases-add_variables
decreases-add_variables l = length l.names.now
