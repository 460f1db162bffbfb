use Rattle.runs.proofs.SizeLaws.{sufficing-is-sized}
use Rattle.runs.proofs.laws.sufficing_is_sized.Goals as goal

pub returns : goal.returns
returns c = sufficing-is-sized
