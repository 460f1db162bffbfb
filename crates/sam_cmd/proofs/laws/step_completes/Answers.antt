use Rattle.sam_cmd.proofs.CompleteLemmas.{step-completes}
use Rattle.sam_cmd.proofs.laws.step_completes.Goals as goal

pub returns : goal.returns
returns c = step-completes
