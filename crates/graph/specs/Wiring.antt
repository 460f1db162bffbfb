-- How the blocks of a graph are joined, and which graphs are well formed.
use Rattle.std.specs.Prelude.{◌≡◌, ◌<◌, ℕ, [], length, get_or}
use Rattle.block_core.specs.Kind.{ins_of, outs_of}
use Rattle.stream_model.specs.declared.labels.Tree.TheVariants as tree
use Rattle.stream_model.specs.declared.labels.Attr.TheVariants as attr
use Rattle.graph.specs.declared.graphs.Kind.TheVariants as kind
use Rattle.graph.specs.declared.graphs.Block.{Block}
use Rattle.graph.specs.declared.graphs.Channel.{Channel}
use Rattle.graph.specs.declared.graphs.Graph.{Graph}
use Rattle.graph.specs.Meaning.{meaning}

-- a block that nothing leads to, and that makes no move
abbrev pub no_block : Block
no_block = record { kind = kind.Drain; ins = []; outs = [] }

abbrev pub no_channel : Channel
no_channel = record {
  from_block = 0;
  from_port = 0;
  to_block = 0;
  to_port = 0;
  label = record { tree = tree.Root; attr = attr.Literal 0 };
}

abbrev pub block : Graph → ℕ → Block
block g b = get_or g.blocks b no_block

abbrev pub channel : Graph → ℕ → Channel
channel g c = get_or g.channels c no_channel

-- the channels at an input and at an output port of a block
abbrev pub into : Graph → ℕ → ℕ → ℕ
into g b p = get_or (block g b).ins p 0

abbrev pub out_of : Graph → ℕ → ℕ → ℕ
out_of g b p = get_or (block g b).outs p 0

-- a rank of the blocks rises along every channel, so no channel leads round to its own block
abbrev pub Rises : Graph → (ℕ → ℕ) → Type 0
Rises g rank = (c : ℕ) → c < length g.channels → rank (channel g c).from_block < rank (channel g c).to_block

-- the channel at an input port names it back
abbrev pub NamesInput : Graph → ℕ → ℕ → Type 0
NamesInput g b p =
    (into g b p < length g.channels) × ((channel g (into g b p)).to_block ≡ b) × ((channel g (into g b p)).to_port ≡ p)

-- and the channel at an output port
abbrev pub NamesOutput : Graph → ℕ → ℕ → Type 0
NamesOutput g b p =
    (out_of g b p < length g.channels) × ((channel g (out_of g b p)).from_block ≡ b) × ((channel g (out_of g b p)).from_port ≡ p)

-- a channel is listed at the input port that it names
abbrev pub IsReceived : Graph → ℕ → Type 0
IsReceived g c =
    ((channel g c).to_block < length g.blocks)
    × ((channel g c).to_port < length (block g (channel g c).to_block).ins)
    × (into g (channel g c).to_block (channel g c).to_port ≡ c)

-- and at the output port
abbrev pub IsSent : Graph → ℕ → Type 0
IsSent g c =
    ((channel g c).from_block < length g.blocks)
    × ((channel g c).from_port < length (block g (channel g c).from_block).outs)
    × (out_of g (channel g c).from_block (channel g c).from_port ≡ c)

-- Each kind has its number of ports, each port has one channel, which names it back, each channel is listed at both ports
-- that it names, and no channel leads round to its own block.
pub record WellFormed (g : Graph) : Type 0 where
  pub ins_number : (b : ℕ) → b < length g.blocks → length (block g b).ins ≡ ins_of (meaning [] (block g b).kind)
  pub outs_number : (b : ℕ) → b < length g.blocks → length (block g b).outs ≡ outs_of (meaning [] (block g b).kind)
  pub in_named : (b p : ℕ) → b < length g.blocks → p < length (block g b).ins → NamesInput g b p
  pub out_named : (b p : ℕ) → b < length g.blocks → p < length (block g b).outs → NamesOutput g b p
  pub received : (c : ℕ) → c < length g.channels → IsReceived g c
  pub came : (c : ℕ) → c < length g.channels → IsSent g c
  pub forwards : (rank : ℕ → ℕ) × Rises g rank
