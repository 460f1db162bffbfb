use Rattle.graph_check.proofs.LowerMeets.{lowered-meets}
use Rattle.graph_check.proofs.laws.lowered_graph_meets.Goals as goal

pub returns : goal.returns
returns c = lowered-meets
