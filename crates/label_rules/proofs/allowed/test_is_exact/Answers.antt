use Rattle.label_rules.proofs.rules.Exact.{allowed-gives, gives-allowed}
use Rattle.label_rules.proofs.allowed.test_is_exact.Goals as goal

pub returns : goal.returns
returns c = λ p k ins outs. (allowed-gives p k ins outs, gives-allowed p k ins outs)
