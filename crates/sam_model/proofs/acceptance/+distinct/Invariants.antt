use Rattle.std.proofs.Common.{length}
use Rattle.sam_model.proofs.acceptance.+distinct.Given as goal

abbrev pub decreases-distinct : goal.decreases-distinct
decreases-distinct l = length l.numbers.now
