use Rattle.graph.specs.declared.graphs.Kind.TheVariants as kind
use Rattle.label_rules.proofs.rules.Sound.{keeps-labels}
use Rattle.label_rules.proofs.kinds.reducer_laws.Goals as goal

pub returns : goal.returns
returns c = record { scalar = keeps-labels kind.SumScalar; vector = keeps-labels kind.SumVector; matrix = keeps-labels kind.SumMatrix }
