use Rattle.graph.specs.declared.graphs.Kind.TheVariants as kind
use Rattle.label_rules.proofs.rules.Sound.{keeps-labels}
use Rattle.label_rules.proofs.kinds.copy_laws.Goals as goal

pub returns : goal.returns
returns c = record { cast = λ n. keeps-labels (kind.Cast n); drain = keeps-labels kind.Drain }
