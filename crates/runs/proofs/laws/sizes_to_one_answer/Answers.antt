use Rattle.runs.proofs.SizeLaws.{sizes-to-one-answer}
use Rattle.runs.proofs.laws.sizes_to_one_answer.Goals as goal

pub returns : goal.returns
returns c = sizes-to-one-answer
