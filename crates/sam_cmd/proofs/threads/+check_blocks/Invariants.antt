use Rattle.std.proofs.Common.{length}
use Rattle.sam_cmd.proofs.threads.+check_blocks.Given as goal

abbrev pub decreases-check_blocks : goal.decreases-check_blocks
decreases-check_blocks l = length l.steps.now
