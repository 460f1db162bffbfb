use Rattle.custard_lower.proofs.written.LowGraph.{low-allowed}
use Rattle.custard_lower.proofs.laws.labels_are_allowed.Goals as goal

pub returns : goal.returns
returns c = low-allowed
