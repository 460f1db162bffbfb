-- A graph as JSON.
use Rattle.std.specs.Prelude.{ℕ, List, [], ◌∷◌, ◌++◌, codes, map, All, IsUtf8}
use Rattle.serde_json.specs.Data.{Data, number, unsigned, string, array, object, member, no_members}
use Rattle.serde_json.specs.View.{items_of}
use Rattle.serde_json.specs.Written.{compact_text}
use Rattle.sam_model.specs.declared.tensors.Tensor.{Tensor}
use Rattle.sam_model.specs.declared.program.Program.{Program}
use Rattle.stream_model.specs.Texts.{text_of_label}
use Rattle.graph.specs.declared.graphs.Block.{Block}
use Rattle.graph.specs.declared.graphs.Channel.{Channel}
use Rattle.graph.specs.declared.graphs.Graph.{Graph}
use Rattle.graph_json.specs.Tables.{kind_word, kind_numbers, kind_name}

abbrev pub number_data : ℕ → Data
number_data n = number (unsigned n)

abbrev pub list_data : {A : Type 0} → (A → Data) → List A → Data
list_data data_of xs = array (items_of (map data_of xs))

abbrev pub numbers_data : List ℕ → Data
numbers_data = list_data number_data

-- the keys of every object ascend
abbrev pub block_data : Program → Block → Data
block_data p b = object
    (member (codes "arg") (numbers_data (kind_numbers b.kind))
    (member (codes "ins") (numbers_data b.ins)
    (member (codes "kind") (string (kind_word b.kind))
    (member (codes "name") (string (kind_name p b.kind))
    (member (codes "outs") (numbers_data b.outs) no_members)))))

-- a channel's ends are each a block and a port
abbrev pub channel_data : Channel → Data
channel_data c = object
    (member (codes "from") (numbers_data (c.from_block ∷ c.from_port ∷ []))
    (member (codes "label") (string (text_of_label c.label))
    (member (codes "to") (numbers_data (c.to_block ∷ c.to_port ∷ [])) no_members)))

abbrev pub graph_data : Program → Graph → Data
graph_data p g = object
    (member (codes "blocks") (list_data (block_data p) g.blocks)
    (member (codes "channels") (list_data channel_data g.channels) no_members))

-- a line with the graph in compact form
abbrev pub graph_text : Program → Graph → List ℕ
graph_text p g = compact_text (graph_data p g) ++ 10 ∷ []

-- the names of the tensors and of the result are text
pub record NamesAreText (p : Program) : Type 0 where
  pub tensors : All (λ (t : Tensor). IsUtf8 t.name) p.tensors
  pub result : IsUtf8 p.result.name
