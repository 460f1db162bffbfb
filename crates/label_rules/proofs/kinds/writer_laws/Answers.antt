use Rattle.graph.specs.declared.graphs.Kind.TheVariants as kind
use Rattle.label_rules.proofs.rules.Sound.{keeps-labels}
use Rattle.label_rules.proofs.kinds.writer_laws.Goals as goal

pub returns : goal.returns
returns c = record { level = λ n. keeps-labels (kind.WriteLevel n); value = keeps-labels kind.WriteValue }
