use Rattle.std.proofs.Common.{◌∙◌, ap}
use Rattle.std.specs.Prelude.{Ok}
use Rattle.graph.specs.declared.graphs.Graph.{Graph}
use Rattle.graph_json.specs.Spelled.{graph_text}
use Rattle.graph_json.proofs.NameLemmas.{names-are_text}
use Rattle.sam_cmd.proofs.lower.program_graph.Goals as goal

pub graph_text-requires : goal.graph_text-requires
graph_text-requires c = names-are_text c.args.p.now c.requires.named.tensors c.requires.named.result

pub returns-in-Ok-graph_text : goal.returns-in-Ok-graph_text
returns-in-Ok-graph_text c = λ files.
    ap Ok (c.in-Ok-graph_text.ensures ∙ ap (λ (g : Graph). graph_text c.args.p.now g) c.in-Ok.ensures.is_chosen)
