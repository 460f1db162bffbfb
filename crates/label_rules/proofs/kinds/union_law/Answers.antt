use Rattle.graph.specs.declared.graphs.Kind.TheVariants as kind
use Rattle.label_rules.proofs.rules.Sound.{keeps-labels}
use Rattle.label_rules.proofs.kinds.union_law.Goals as goal

pub returns : goal.returns
returns c = λ m n. keeps-labels (kind.Union m n)
