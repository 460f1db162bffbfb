use Rattle.sam_cmd.proofs.CompleteLemmas.{run-completes}
use Rattle.sam_cmd.proofs.laws.run_completes.Goals as goal

pub returns : goal.returns
returns c = run-completes
