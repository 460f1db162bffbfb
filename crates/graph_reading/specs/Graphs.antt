-- The graph that JSON spells.
use Rattle.std.specs.Prelude.{ℕ, List, [], ◌∷◌, codes, Option, Some, None, option_map, option_and_then}
use Rattle.serde_json.specs.Data.{Data}
use Rattle.serde_json.specs.Find.{as_str}
use Rattle.sam_model.specs.declared.program.Program.{Program}
use Rattle.stream_model.specs.declared.labels.Label.{Label}
use Rattle.graph.specs.declared.graphs.Kind.{Kind}
use Rattle.graph.specs.declared.graphs.Block.{Block}
use Rattle.graph.specs.declared.graphs.Channel.{Channel}
use Rattle.graph.specs.declared.graphs.Graph.{Graph}
use Rattle.label_reading.specs.Words.{label_in}
use Rattle.graph_reading.specs.Values.{list_in, numbers_in, places_in, value_under, value_of, both_read}
use Rattle.graph_reading.specs.Kinds.{kind_with}

abbrev pub kind_in : Program → Data → Option Kind
kind_in p d =
    option_and_then (λ word. option_and_then (λ numbers. option_and_then (kind_with p word numbers) (value_under (codes "name") as_str d))
    (value_under (codes "arg") numbers_in d)) (value_under (codes "kind") as_str d)

abbrev pub block_with : Kind → List ℕ × List ℕ → Block
block_with kind ports = record { kind = kind; ins = ports.0; outs = ports.1 }

abbrev pub block_in : Program → Data → Option Block
block_in p d =
    option_and_then (λ kind. option_map (block_with kind)
    (both_read (value_under (codes "ins") places_in d) (value_under (codes "outs") places_in d))) (kind_in p d)

-- a block and a port
abbrev pub end_of : List ℕ → Option (ℕ × ℕ)
end_of (block ∷ port ∷ []) = Some (block, port)
end_of _ = None

abbrev pub end_in : List ℕ → Data → Option (ℕ × ℕ)
end_in key d = option_and_then end_of (value_under key places_in d)

abbrev pub channel_label : Data → Option Label
channel_label d = option_and_then label_in (value_under (codes "label") as_str d)

abbrev pub channel_with : ℕ × ℕ → Label × (ℕ × ℕ) → Channel
channel_with from rest = record {
  from_block = from.0;
  from_port = from.1;
  to_block = rest.1.0;
  to_port = rest.1.1;
  label = rest.0;
}

abbrev pub channel_in : Data → Option Channel
channel_in d =
    option_and_then (λ from. option_map (channel_with from) (both_read (channel_label d) (end_in (codes "to") d)))
    (end_in (codes "from") d)

abbrev pub graph_with : List Block × List Channel → Graph
graph_with parts = record { blocks = parts.0; channels = parts.1 }

abbrev pub graph_in : Program → Data → Option Graph
graph_in p d =
    option_map graph_with
    (both_read (value_under (codes "blocks") (list_in (block_in p)) d) (value_under (codes "channels") (list_in channel_in) d))

-- the graph that a text spells
abbrev pub graph_of : Program → List ℕ → Option Graph
graph_of p text = option_and_then (graph_in p) (value_of text)
