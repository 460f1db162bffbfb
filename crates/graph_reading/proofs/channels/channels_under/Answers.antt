use Rattle.std.proofs.Common.{subst}
use Rattle.std.specs.Prelude.{Option, List, codes}
use Rattle.serde_json.specs.View.{view}
use Rattle.serde_json.specs.Find.{get}
use Rattle.graph.specs.declared.graphs.Channel.{Channel}
use Rattle.graph_reading.specs.Answers.{Answers}
use Rattle.graph_reading.specs.Graphs.{channel_in}
use Rattle.graph_reading.proofs.ReadLemmas.{items_under}
use Rattle.graph_reading.proofs.channels.channels_under.Goals as goal

pub returns-in-Some : goal.returns-in-Some
returns-in-Some c =
    subst (λ (l : Option (List Channel)). Answers l c.channel_list.result) (items_under channel_in (get (codes "channels") (view c.args.value.now)) c.in-Some.list.now c.in-Some.ensures) c.channel_list.ensures
