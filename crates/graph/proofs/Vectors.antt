-- The graph of x(i) = b(i) * c(i) over compressed vectors, and two vectors.
use Rattle.std.specs.Prelude.{ℕ, List, [], ◌∷◌}
use Rattle.sam_model.specs.Children.{Ranked}
use Rattle.stream_model.specs.declared.labels.Tree.TheVariants as tree
use Rattle.stream_model.specs.declared.labels.Attr.TheVariants as attr
use Rattle.graph.specs.declared.graphs.Kind.{Kind}
use Rattle.graph.specs.declared.graphs.Kind.TheVariants.{Root, Scan, Cast, Intersect, Array, Mul, DropValue, WriteLevel, WriteValue}
use Rattle.graph.specs.declared.graphs.Block.{Block}
use Rattle.graph.specs.declared.graphs.Channel.{Channel}
use Rattle.graph.specs.declared.graphs.Graph.{Graph}

abbrev block_of : Kind → List ℕ → List ℕ → Block
block_of kind ins outs = record { kind = kind; ins = ins; outs = outs }

-- from an output port of a block to an input port of another; whole streams and wiring don't depend on the label
abbrev pub leads : ℕ → ℕ → ℕ → ℕ → Channel
leads from_block from_port to_block to_port = record {
  from_block = from_block;
  from_port = from_port;
  to_block = to_block;
  to_port = to_port;
  label = record { tree = tree.Root; attr = attr.Literal 0 };
}

abbrev pub vectors : Graph
vectors = record {
  blocks =
      block_of Root [] (0 ∷ [])
      ∷ block_of (Scan 0 1) (13 ∷ []) (1 ∷ 2 ∷ [])
      ∷ block_of (Scan 1 1) (14 ∷ []) (3 ∷ 4 ∷ [])
      ∷ block_of (Intersect 1 1) (1 ∷ 2 ∷ 3 ∷ 4 ∷ []) (5 ∷ 6 ∷ 7 ∷ [])
      ∷ block_of (Array 0) (6 ∷ []) (8 ∷ [])
      ∷ block_of (Array 1) (7 ∷ []) (9 ∷ [])
      ∷ block_of Mul (8 ∷ 9 ∷ []) (10 ∷ [])
      ∷ block_of DropValue (5 ∷ 10 ∷ []) (11 ∷ 12 ∷ [])
      ∷ block_of (WriteLevel 1) (11 ∷ []) []
      ∷ block_of WriteValue (12 ∷ []) []
      ∷ block_of (Cast 2) (0 ∷ []) (13 ∷ 14 ∷ [])
      ∷ [];
  channels =
      leads 0 0 10 0
      ∷ leads 1 0 3 0 ∷ leads 1 1 3 1
      ∷ leads 2 0 3 2 ∷ leads 2 1 3 3
      ∷ leads 3 0 7 0 ∷ leads 3 1 4 0 ∷ leads 3 2 5 0
      ∷ leads 4 0 6 0
      ∷ leads 5 0 6 1
      ∷ leads 6 0 7 1
      ∷ leads 7 0 8 0 ∷ leads 7 1 9 0
      ∷ leads 10 0 1 0 ∷ leads 10 1 2 0
      ∷ [];
}

-- 2 at coordinate 0 and 5 at 2; 7 at 2 and 1 at 3
abbrev pub stored : List Ranked
stored =
    record { counts = 1 ∷ 2 ∷ []; children = (((0, 0) ∷ (2, 1) ∷ []) ∷ []) ∷ []; values = 2 ∷ 5 ∷ [] }
    ∷ record { counts = 1 ∷ 2 ∷ []; children = (((2, 0) ∷ (3, 1) ∷ []) ∷ []) ∷ []; values = 7 ∷ 1 ∷ [] }
    ∷ []
