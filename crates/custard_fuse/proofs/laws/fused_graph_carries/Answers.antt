use Rattle.custard_fuse.proofs.FusedGraph.{fused-carries}
use Rattle.custard_fuse.proofs.laws.fused_graph_carries.Goals as goal

pub returns : goal.returns
returns c = fused-carries
