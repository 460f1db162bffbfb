use Rattle.graph.proofs.Carried.{carried-whole, carried-consistent}
use Rattle.graph.proofs.carried_streams.Goals as goal

pub returns : goal.returns
returns c = record { whole = carried-whole; consistent = carried-consistent }
