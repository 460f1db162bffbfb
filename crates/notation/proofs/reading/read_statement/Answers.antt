use Rattle.std.proofs.Common.{length, subst}
use Rattle.notation.specs.Tokens.{tokens_of}
use Rattle.notation.specs.Refusals.{GivesNote}
use Rattle.notation.proofs.First.{is_found, is_first}
use Rattle.notation.proofs.Again.{run-again}
use Rattle.notation.proofs.reading.read_statement.Goals as goal

pub returns-clause-found : goal.returns-clause-found
returns-clause-found c = is_found (length c.args.text.now) (tokens_of c.args.text.now) c.read.result c.read.ensures

pub returns-clause-only : goal.returns-clause-only
returns-clause-only c = λ x h. subst (λ q. GivesNote c.read.result q) (run-again (length c.args.text.now) x (tokens_of c.args.text.now) h) c.read.ensures

pub returns-clause-first : goal.returns-clause-first
returns-clause-first c = is_first (length c.args.text.now) (tokens_of c.args.text.now) c.read.result c.read.ensures
