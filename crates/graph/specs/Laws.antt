-- What holds of the whole streams of every well formed graph.
use Rattle.std.specs.Prelude.{◌≡◌, ◌<◌, ℕ, List, length}
use mathlib.Core.List.{map}
use Rattle.stream_tokens.specs.declared.Token.{Token}
use Rattle.sam_model.specs.Children.{Ranked}
use Rattle.block_core.specs.Ports.{port}
use Rattle.block_core.specs.Kind.{Fits, outputs}
use Rattle.graph.specs.declared.graphs.Graph.{Graph}
use Rattle.graph.specs.Meaning.{meaning}
use Rattle.graph.specs.Wiring.{block, channel, WellFormed}
use Rattle.graph.specs.WholeStreams.{whole_stream, Consistent}

-- These streams fit together: the stream of each channel is the one that its block gives from the streams at its inputs.
abbrev pub Given : List Ranked → Graph → (ℕ → List Token) → Type 0
Given storages g streams =
    (c : ℕ) → c < length g.channels
    → streams c ≡ port (channel g c).from_port
    (outputs (meaning storages (block g (channel g c).from_block).kind)
    (map streams (block g (channel g c).from_block).ins))

-- the whole streams do
abbrev pub StreamsAreGiven : Type 0
StreamsAreGiven = (storages : List Ranked) (g : Graph) → WellFormed g → Given storages g (whole_stream storages g)

-- and no other streams do
abbrev pub OnlyWholeStreams : Type 0
OnlyWholeStreams =
    (storages : List Ranked) (g : Graph) (streams : ℕ → List Token) → WellFormed g → Given storages g streams
    → (c : ℕ) → c < length g.channels → streams c ≡ whole_stream storages g c

-- A block takes the streams of its input channels, which fit it, and puts those of its output channels.
pub record PassesOn (storages : List Ranked) (g : Graph) (streams : ℕ → List Token) (b : ℕ) : Type 0 where
  pub fits : Fits (meaning storages (block g b).kind) (map streams (block g b).ins)
  pub puts_them : outputs (meaning storages (block g b).kind) (map streams (block g b).ins) ≡ map streams (block g b).outs

-- every block does
abbrev pub Carried : List Ranked → Graph → (ℕ → List Token) → Type 0
Carried storages g streams = (b : ℕ) → b < length g.blocks → PassesOn storages g streams b

-- Streams that every block passes on are the whole streams,
abbrev pub CarriedAreWhole : Type 0
CarriedAreWhole =
    (storages : List Ranked) (g : Graph) (streams : ℕ → List Token) → WellFormed g → Carried storages g streams
    → (c : ℕ) → c < length g.channels → streams c ≡ whole_stream storages g c

-- and the graph is then consistent.
abbrev pub CarriedAreConsistent : Type 0
CarriedAreConsistent =
    (storages : List Ranked) (g : Graph) (streams : ℕ → List Token) → WellFormed g → Carried storages g streams
    → Consistent storages g
