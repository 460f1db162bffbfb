use Rattle.graph_check.proofs.Suffices.{suffices}
use Rattle.graph_check.proofs.laws.rules_suffice.Goals as goal

pub returns : goal.returns
returns c = suffices
