use Rattle.verdicts.proofs.OneVerdict.{lowered-is-verified}
use Rattle.sam_cmd.proofs.laws.plain_graphs_are_verified.Goals as goal

pub returns : goal.returns
returns c = lowered-is-verified
