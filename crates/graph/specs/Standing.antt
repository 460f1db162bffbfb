-- Where the blocks of a graph stand on their whole inputs.
use Rattle.std.specs.Prelude.{◌≡◌, ℕ, List, length, slice_get, Some}
use Rattle.sam_model.specs.Children.{Ranked}
use Rattle.block_core.specs.Move.{Move}
use Rattle.block_core.specs.Ports.{Streams}
use Rattle.block_core.specs.Kind.{Kind, moves}
use Rattle.graph.specs.declared.graphs.Graph.{Graph}
use Rattle.graph.specs.Meaning.{meaning}
use Rattle.graph.specs.Wiring.{block}
use Rattle.graph.specs.WholeStreams.{whole_inputs}

-- the moves of a block on its whole inputs
abbrev pub block_moves : List Ranked → Graph → ℕ → List Move
block_moves storages g b = moves (meaning storages (block g b).kind) (whole_inputs storages g b)

-- These blocks are a graph's own, in order, and each has made so many moves on its whole inputs.
pub record StandAt {B : Type 0} (kind : B → Kind) (stands : B → Streams → ℕ → Type 0) (storages : List Ranked) (g : Graph)
    (position : ℕ → ℕ) (blocks : List B) : Type 0 where
  pub number : length blocks ≡ length g.blocks
  pub kinds : (b : ℕ) (x : B) → slice_get blocks b ≡ Some x → kind x ≡ meaning storages (block g b).kind
  pub placed : (b : ℕ) (x : B) → slice_get blocks b ≡ Some x → stands x (whole_inputs storages g b) (position b)

-- before the first moves, and after the last
abbrev pub start_position : ℕ → ℕ
start_position b = 0

abbrev pub final_position : List Ranked → Graph → ℕ → ℕ
final_position storages g b = length (block_moves storages g b)
