use Rattle.graph.specs.declared.graphs.Kind.TheVariants as kind
use Rattle.label_rules.proofs.rules.Sound.{keeps-labels}
use Rattle.label_rules.proofs.kinds.addition_laws.Goals as goal

pub returns : goal.returns
returns c = record { add = keeps-labels kind.Add; sub = keeps-labels kind.Sub }
