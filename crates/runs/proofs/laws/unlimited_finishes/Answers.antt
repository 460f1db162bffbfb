use Rattle.runs.proofs.RunLaws.{unlimited-finishes}
use Rattle.runs.proofs.laws.unlimited_finishes.Goals as goal

pub returns : goal.returns
returns c = unlimited-finishes
