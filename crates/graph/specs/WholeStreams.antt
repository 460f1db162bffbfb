-- The whole stream of each channel of a graph over stored tensors.
use Rattle.std.specs.Prelude.{ℕ, zero, suc, ◌<◌, List, [], length}
use mathlib.Core.List.{map}
use Rattle.stream_tokens.specs.declared.Token.{Token}
use Rattle.sam_model.specs.Children.{Ranked}
use Rattle.block_core.specs.Ports.{Streams, port}
use Rattle.block_core.specs.Kind.{Fits, outputs}
use Rattle.graph.specs.declared.graphs.Graph.{Graph}
use Rattle.graph.specs.Meaning.{meaning}
use Rattle.graph.specs.Wiring.{block, channel}

-- the stream of a channel, as its block gives it from streams that so many blocks led to
abbrev pub stream_after : List Ranked → Graph → ℕ → ℕ → List Token
stream_after storages g zero c = []
stream_after storages g (suc n) c =
    port (channel g c).from_port
    (outputs (meaning storages (block g (channel g c).from_block).kind)
    (map (stream_after storages g n) (block g (channel g c).from_block).ins))

-- No path is longer than there are blocks, where no channel leads round.
abbrev pub whole_stream : List Ranked → Graph → ℕ → List Token
whole_stream storages g c = stream_after storages g (length g.blocks) c

-- the whole streams at a block's input ports
abbrev pub whole_inputs : List Ranked → Graph → ℕ → Streams
whole_inputs storages g b = map (whole_stream storages g) (block g b).ins

-- every block's whole inputs fit
abbrev pub Consistent : List Ranked → Graph → Type 0
Consistent storages g =
    (b : ℕ) → b < length g.blocks → Fits (meaning storages (block g b).kind) (whole_inputs storages g b)
