use Rattle.plays.proofs.Always.{always-kept}
use Rattle.plays.proofs.always_kept.Goals as goal

pub returns : goal.returns
returns c = always-kept
