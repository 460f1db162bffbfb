use Rattle.std.proofs.Common.{length}
use Rattle.program_file.proofs.accesses.+repeated.Given as goal

abbrev pub decreases-repeated : goal.decreases-repeated
decreases-repeated l = length l.vars.now
