use Rattle.graph.specs.declared.graphs.Kind.TheVariants as kind
use Rattle.label_rules.proofs.rules.Sound.{keeps-labels}
use Rattle.label_rules.proofs.kinds.dropper_laws.Goals as goal

pub returns : goal.returns
returns c = record { value = keeps-labels kind.DropValue; fiber = keeps-labels kind.DropFiber }
