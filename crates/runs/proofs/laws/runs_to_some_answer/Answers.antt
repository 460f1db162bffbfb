use Rattle.runs.proofs.RunLaws.{runs-to-some-answer}
use Rattle.runs.proofs.laws.runs_to_some_answer.Goals as goal

pub returns : goal.returns
returns c = runs-to-some-answer
