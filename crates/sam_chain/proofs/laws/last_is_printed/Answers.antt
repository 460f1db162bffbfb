use Rattle.sam_chain.proofs.LastLemmas.{last-printed}
use Rattle.sam_chain.proofs.laws.last_is_printed.Goals as goal

pub returns : goal.returns
returns c = last-printed
