use Rattle.sam_cmd.proofs.DenotedLemmas.{step-denotes}
use Rattle.sam_cmd.proofs.laws.step_denotes.Goals as goal

pub returns : goal.returns
returns c = step-denotes
