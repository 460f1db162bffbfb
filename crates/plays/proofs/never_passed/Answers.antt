use Rattle.plays.proofs.Passed.{never-passed}
use Rattle.plays.proofs.never_passed.Goals as goal

pub returns : goal.returns
returns c = never-passed
