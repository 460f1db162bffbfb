use Rattle.std.proofs.Common.{length}
use Rattle.expand.proofs.terms.+append_products.Given as goal

abbrev pub decreases-append_products : goal.decreases-append_products
decreases-append_products l = length l.lefts.now
