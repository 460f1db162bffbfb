use Rattle.sam_cmd.proofs.CompleteLemmas.{verify-completes}
use Rattle.sam_cmd.proofs.laws.verify_completes.Goals as goal

pub returns : goal.returns
returns c = verify-completes
