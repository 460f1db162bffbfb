-- The net of a graph over stored tensors: each block makes its moves on its whole inputs.
use Rattle.std.specs.Prelude.{ℕ, List, length, get_or, Option, None}
use Rattle.sam_model.specs.Children.{Ranked}
use Rattle.graph.specs.declared.graphs.Graph.{Graph}
use Rattle.graph.specs.Wiring.{channel, into, out_of}
use Rattle.graph.specs.Standing.{block_moves}
use Rattle.plays.specs.Net.{Net, Rooms}

abbrev pub net_of : List Ranked → Graph → Net
net_of storages g = record {
  blocks = length g.blocks;
  channels = length g.channels;
  moves = block_moves storages g;
  into = into g;
  out_of = out_of g;
  sender = λ c. (channel g c).from_block;
  sent_at = λ c. (channel g c).from_port;
  receiver = λ c. (channel g c).to_block;
  received_at = λ c. (channel g c).to_port;
}

-- the limits that a list of capacities gives
abbrev pub rooms_of : List (Option ℕ) → Rooms
rooms_of caps = λ c. get_or caps c None
