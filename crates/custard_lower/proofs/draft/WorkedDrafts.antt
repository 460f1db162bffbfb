-- A worked case: the graph of a draft in which an output has two readers, one has none, and the others have one.
use Rattle.std.specs.Prelude.{◌≡◌, ℕ, List, [], ◌∷◌, refl}
use Rattle.stream_model.specs.declared.labels.Label.{Label}
use Rattle.stream_model.specs.declared.labels.Tree.TheVariants as tree
use Rattle.stream_model.specs.declared.labels.Attr.TheVariants as attr
use Rattle.graph.specs.declared.graphs.Kind.{Kind}
use Rattle.graph.specs.declared.graphs.Kind.TheVariants.{Root, Scan, Array, Mul, WriteValue, Cast, Drain}
use Rattle.graph.specs.declared.graphs.Block.{Block}
use Rattle.graph.specs.declared.graphs.Channel.{Channel}
use Rattle.custard_lower.specs.declared.drafts.Made.{Made}
use Rattle.custard_lower.specs.DraftGraph.{graph_of}

-- labels that differ
abbrev named : ℕ → Label
named n = record { tree = tree.Root; attr = attr.Literal n }

abbrev making : Kind → List ℕ → List Label → Made
making kind ins labels = record { kind = kind; ins = ins; labels = labels }

-- the square of a vector's values, whose coordinates nothing reads
abbrev squares : List Made
squares =
    making Root [] (named 10 ∷ [])
    ∷ making (Scan 0 1) (0 ∷ []) (named 11 ∷ named 12 ∷ [])
    ∷ making (Array 0) (2 ∷ []) (named 13 ∷ [])
    ∷ making Mul (3 ∷ 3 ∷ []) (named 14 ∷ [])
    ∷ making WriteValue (4 ∷ []) []
    ∷ []

abbrev block_of : Kind → List ℕ → List ℕ → Block
block_of kind ins outs = record { kind = kind; ins = ins; outs = outs }

abbrev channel_of : ℕ → ℕ → ℕ → ℕ → ℕ → Channel
channel_of from_block from_port to_block to_port name = record {
  from_block = from_block;
  from_port = from_port;
  to_block = to_block;
  to_port = to_port;
  label = named name;
}

-- the drain of output 1 comes before the cast of output 3
blocks_follow : (graph_of squares).blocks
    ≡ block_of Root [] (0 ∷ [])
    ∷ block_of (Scan 0 1) (0 ∷ []) (1 ∷ 2 ∷ [])
    ∷ block_of (Array 0) (2 ∷ []) (3 ∷ [])
    ∷ block_of Mul (5 ∷ 6 ∷ []) (4 ∷ [])
    ∷ block_of WriteValue (4 ∷ []) []
    ∷ block_of Drain (1 ∷ []) []
    ∷ block_of (Cast 2) (3 ∷ []) (5 ∷ 6 ∷ [])
    ∷ []
blocks_follow = refl

channels_follow : (graph_of squares).channels
    ≡ channel_of 0 0 1 0 10
    ∷ channel_of 1 0 5 0 11 ∷ channel_of 1 1 2 0 12
    ∷ channel_of 2 0 6 0 13
    ∷ channel_of 3 0 4 0 14
    ∷ channel_of 6 0 3 0 13 ∷ channel_of 6 1 3 1 13
    ∷ []
channels_follow = refl
