use Rattle.traces.proofs.TellingLemmas.{moments-are-beginnings}
use Rattle.traces.proofs.laws.moments_are_beginnings.Goals as goal

pub returns : goal.returns
returns c = moments-are-beginnings
