use Rattle.runs.proofs.RunLaws.{runs-to-one-answer}
use Rattle.runs.proofs.laws.runs_to_one_answer.Goals as goal

pub returns : goal.returns
returns c = runs-to-one-answer
