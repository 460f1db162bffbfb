use Rattle.std.proofs.Common.{length}
use Rattle.sam_model.proofs.acceptance.+ascending_from.Given as goal

abbrev pub decreases-ascending_from : goal.decreases-ascending_from
decreases-ascending_from l = length l.order.now
