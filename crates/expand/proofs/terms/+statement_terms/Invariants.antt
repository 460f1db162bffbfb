use Rattle.std.proofs.Common.{length}
use Rattle.expand.proofs.terms.+statement_terms.Given as goal

abbrev pub decreases-statement_terms : goal.decreases-statement_terms
decreases-statement_terms l = length l.tops.now
