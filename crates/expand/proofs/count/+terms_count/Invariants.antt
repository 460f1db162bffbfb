use Rattle.std.proofs.Common.{length}
use Rattle.expand.proofs.count.+terms_count.Given as goal

abbrev pub decreases-terms_count : goal.decreases-terms_count
decreases-terms_count l = length l.tops.now
