use Rattle.ruled_wires.proofs.laws.ends_join.Goals as goal
use Rattle.ruled_wires.proofs.Keeping.{ends-join}

pub returns : goal.returns
returns c = ends-join
