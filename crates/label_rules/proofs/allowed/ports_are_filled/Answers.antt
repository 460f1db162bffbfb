use Rattle.label_rules.proofs.rules.Arity.{rules-arity}
use Rattle.label_rules.proofs.allowed.ports_are_filled.Goals as goal

pub returns : goal.returns
returns c = rules-arity
