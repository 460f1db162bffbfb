use Rattle.plays.proofs.Ends.{larger-suffices}
use Rattle.plays.proofs.larger_suffices.Goals as goal

pub returns : goal.returns
returns c = larger-suffices
