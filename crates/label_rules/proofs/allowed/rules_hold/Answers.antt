use Rattle.label_rules.proofs.rules.Sound.{checked-graph}
use Rattle.label_rules.proofs.allowed.rules_hold.Goals as goal

pub returns : goal.returns
returns c = λ p es g ok same. checked-graph p es ok same g
