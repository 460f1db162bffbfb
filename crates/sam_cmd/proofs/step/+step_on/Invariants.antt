use Rattle.std.proofs.Common.{length}
use Rattle.sam_cmd.proofs.step.+step_on.Given as goal

-- so many statements are behind
abbrev pub decreases-step_on : goal.decreases-step_on
decreases-step_on l = length l.step.later.now
