use Rattle.std.proofs.Common.{subst}
use Rattle.std.specs.Prelude.{Option, List, ℕ}
use Rattle.serde_json.specs.View.{view}
use Rattle.serde_json.specs.Find.{get}
use Rattle.graph_reading.specs.Answers.{AnswersItems}
use Rattle.graph_reading.specs.Values.{number_in}
use Rattle.graph_reading.proofs.ReadLemmas.{items_under}
use Rattle.graph_reading.proofs.values.numbers_under.Goals as goal

pub returns-in-Some : goal.returns-in-Some
returns-in-Some c =
    subst (λ (l : Option (List ℕ)). AnswersItems l c.numbers.result) (items_under number_in (get c.args.key.now (view c.args.value.now)) c.in-Some.list.now c.in-Some.ensures) c.numbers.ensures
