use Rattle.std.proofs.Common.{subst, sym}
use Rattle.std.specs.Prelude.{Option, option_and_then}
use Rattle.serde_json.specs.Data.{Data}
use Rattle.graph_reading.specs.Graphs.{graph_in}
use Rattle.graph_reading.specs.Answers.{Answers}
use Rattle.graph_reading.proofs.graphs.read_graph.Goals as goal

pub returns : goal.returns
returns c = subst (λ (d : Option Data). Answers (option_and_then (graph_in c.args.p.now) d) c.graph.result) (sym c.in_ok-value.ensures) c.graph.ensures
