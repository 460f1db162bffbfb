use Rattle.std.proofs.Common.{subst}
use Rattle.std.specs.Prelude.{Option, List, codes}
use Rattle.serde_json.specs.View.{view}
use Rattle.serde_json.specs.Find.{get}
use Rattle.graph.specs.declared.graphs.Block.{Block}
use Rattle.graph_reading.specs.Answers.{Answers}
use Rattle.graph_reading.specs.Graphs.{block_in}
use Rattle.graph_reading.proofs.ReadLemmas.{items_under}
use Rattle.graph_reading.proofs.blocks.blocks_under.Goals as goal

pub returns-in-Some : goal.returns-in-Some
returns-in-Some c =
    subst (λ (l : Option (List Block)). Answers l c.block_list.result) (items_under (block_in c.args.p.now) (get (codes "blocks") (view c.args.value.now)) c.in-Some.list.now c.in-Some.ensures) c.block_list.ensures
