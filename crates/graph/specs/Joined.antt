-- What the ports and channels of a well formed graph satisfy one by one.
use Rattle.std.specs.Prelude.{◌≡◌, ◌<◌, ℕ, [], length}
use Rattle.block_core.specs.Kind.{ins_of, outs_of}
use Rattle.graph.specs.declared.graphs.Graph.{Graph}
use Rattle.graph.specs.Meaning.{meaning}
use Rattle.graph.specs.Wiring.{block, NamesInput, NamesOutput, IsReceived, IsSent}

-- a block has its kind's number of ports, each with a channel that names it back
pub record BlockFits (g : Graph) (b : ℕ) : Type 0 where
  pub ins_number : length (block g b).ins ≡ ins_of (meaning [] (block g b).kind)
  pub outs_number : length (block g b).outs ≡ outs_of (meaning [] (block g b).kind)
  pub in_named : (p : ℕ) → p < length (block g b).ins → NamesInput g b p
  pub out_named : (p : ℕ) → p < length (block g b).outs → NamesOutput g b p

-- a channel is listed at both ports that it names
pub record ChannelFits (g : Graph) (c : ℕ) : Type 0 where
  pub received : IsReceived g c
  pub came : IsSent g c

-- all that well formed graphs satisfy but that no channel leads round
pub record IsJoined (g : Graph) : Type 0 where
  pub blocks : (b : ℕ) → b < length g.blocks → BlockFits g b
  pub channels : (c : ℕ) → c < length g.channels → ChannelFits g c
