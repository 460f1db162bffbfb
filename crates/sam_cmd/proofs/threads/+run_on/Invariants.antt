use Rattle.std.proofs.Common.{length}
use Rattle.sam_cmd.proofs.threads.+run_on.Given as goal

-- so many statements are behind
abbrev pub decreases-run_on : goal.decreases-run_on
decreases-run_on g l = length l.step.later.now
