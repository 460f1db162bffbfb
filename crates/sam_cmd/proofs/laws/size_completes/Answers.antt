use Rattle.sam_cmd.proofs.CompleteLemmas.{size-completes}
use Rattle.sam_cmd.proofs.laws.size_completes.Goals as goal

pub returns : goal.returns
returns c = size-completes
