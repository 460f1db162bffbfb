use Rattle.std.proofs.Common.{length}
use Rattle.program_file.proofs.accesses.+differs.Given as goal

abbrev pub decreases-differs : goal.decreases-differs
decreases-differs l = length l.vars.now
