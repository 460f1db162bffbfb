-- The data of a graph has no float.
use Rattle.std.proofs.Common.{◌≡◌, ℕ, refl, List, [], ◌∷◌, map, false}
use Rattle.serde_json.specs.Data.{Data}
use Rattle.serde_json.specs.View.{items_of}
use Rattle.serde_json.specs.Written.{has_float, items_have_float}
use Rattle.sam_model.specs.declared.program.Program.{Program}
use Rattle.graph.specs.declared.graphs.Block.{Block}
use Rattle.graph.specs.declared.graphs.Channel.{Channel}
use Rattle.graph.specs.declared.graphs.Graph.{Graph}
use Rattle.graph_json.specs.Tables.{kind_numbers}
use Rattle.graph_json.specs.Spelled.{number_data, numbers_data, block_data, channel_data, graph_data}

no_floats : {A : Type 0} (f : A → Data) → ((x : A) → has_float (f x) ≡ false) → (xs : List A) → items_have_float (items_of (map f xs)) ≡ false
no_floats f none [] = refl
no_floats f none (x ∷ xs) = rw (none x) (no_floats f none xs)

numbers_none : (ns : List ℕ) → has_float (numbers_data ns) ≡ false
numbers_none ns = no_floats number_data (λ n. refl) ns

block_none : (p : Program) (b : Block) → has_float (block_data p b) ≡ false
block_none p b = rw (numbers_none (kind_numbers b.kind), numbers_none b.ins, numbers_none b.outs) refl

channel_none : (c : Channel) → has_float (channel_data c) ≡ false
channel_none c = refl

pub graph_none : (p : Program) (g : Graph) → has_float (graph_data p g) ≡ false
graph_none p g = rw (no_floats (block_data p) (block_none p) g.blocks, no_floats channel_data channel_none g.channels) refl
