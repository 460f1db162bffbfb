use Rattle.sam_cmd.proofs.DenotedLemmas.{run-denotes}
use Rattle.sam_cmd.proofs.laws.run_denotes.Goals as goal

pub returns : goal.returns
returns c = run-denotes
