-- The rules on writers and labels, evaluated on the graph that copies a vector, x(i) = b(i), and on the same with one thing turned.
use Rattle.std.proofs.Common.{◌≡◌, ℕ, false, List, [], ◌∷◌, Some, None, refl}
use Rattle.sam_model.specs.declared.tensors.Format.TheVariants.{Compressed}
use Rattle.sam_model.specs.declared.tensors.Tensor.{Tensor}
use Rattle.sam_model.specs.declared.program.Factor.TheVariants.{Access}
use Rattle.sam_model.specs.declared.program.Program.{Program}
use Rattle.stream_model.specs.declared.labels.Tree.{Tree}
use Rattle.stream_model.specs.declared.labels.Tree.TheVariants as tree
use Rattle.stream_model.specs.declared.labels.Attr.{Attr}
use Rattle.stream_model.specs.declared.labels.Attr.TheVariants as attr
use Rattle.graph.specs.declared.graphs.Kind.{Kind}
use Rattle.graph.specs.declared.graphs.Kind.TheVariants.{Root, Scan, Array, DropValue, WriteLevel, WriteValue, Drain}
use Rattle.graph.specs.declared.graphs.Block.{Block}
use Rattle.graph.specs.declared.graphs.Channel.{Channel}
use Rattle.graph.specs.declared.graphs.Graph.{Graph}
use Rattle.graph_check.specs.Faults.{writers_fault, labels_fault}

abbrev vector : Tensor
vector = record { name = []; dims = 4 ∷ []; formats = Compressed ∷ []; order = 0 ∷ []; file = [] }

abbrev copy : Program
copy = record {
  tensors = vector ∷ [];
  result = vector;
  left = 0 ∷ [];
  terms = (record { minus = false; factors = Access 0 (0 ∷ []) ∷ [] }) ∷ [];
  tops = [];
  var_names = [] ∷ [];
  var_sizes = 4 ∷ [];
}

abbrev block_of : Kind → List ℕ → List ℕ → Block
block_of kind ins outs = record { kind = kind; ins = ins; outs = outs }

abbrev leads : ℕ → ℕ → ℕ → ℕ → Tree → Attr → Channel
leads from_block from_port to_block to_port tree attr = record {
  from_block = from_block;
  from_port = from_port;
  to_block = to_block;
  to_port = to_port;
  label = record { tree = tree; attr = attr };
}

-- with this attribute of the values, and this block at the coordinates of the result
abbrev copied : Attr → Kind → Graph
copied values last = record {
  blocks =
      block_of Root [] (0 ∷ [])
      ∷ block_of (Scan 0 1) (0 ∷ []) (1 ∷ 2 ∷ [])
      ∷ block_of (Array 0) (2 ∷ []) (3 ∷ [])
      ∷ block_of DropValue (1 ∷ 3 ∷ []) (4 ∷ 5 ∷ [])
      ∷ block_of last (4 ∷ []) []
      ∷ block_of WriteValue (5 ∷ []) []
      ∷ [];
  channels =
      leads 0 0 1 0 tree.Root (attr.Literal 0)
      ∷ leads 1 0 3 0 (tree.Product 0 1 1) attr.Coordinate
      ∷ leads 1 1 2 0 (tree.Product 0 1 1) (attr.Rank 0)
      ∷ leads 2 0 3 1 (tree.Product 0 1 1) values
      ∷ leads 3 0 4 0 (tree.Reduced 0 0 1 1) attr.Coordinate
      ∷ leads 3 1 5 0 (tree.Reduced 0 0 1 1) attr.Value
      ∷ [];
}

copied-writes : writers_fault copy (copied (attr.FactorValue 0) (WriteLevel 1)) ≡ None
copied-writes = refl

copied-is-labelled : labels_fault copy (copied (attr.FactorValue 0) (WriteLevel 1)) ≡ None
copied-is-labelled = refl

-- an array tells the values of a factor, and not yet of a product
of-a-product : labels_fault copy (copied attr.Whole (WriteLevel 1)) ≡ Some 2
of-a-product = refl

-- nothing that a block is given is of a rank
of-a-rank : labels_fault copy (copied (attr.Rank 0) (WriteLevel 1)) ≡ Some 2
of-a-rank = refl

-- a level that the result lacks is a writer too many, and where level 1 isn't written one is missing
second-level : writers_fault copy (copied (attr.FactorValue 0) (WriteLevel 2)) ≡ Some 4
second-level = refl

no-level : writers_fault copy (copied (attr.FactorValue 0) Drain) ≡ Some 6
no-level = refl

no-level-but-labels : labels_fault copy (copied (attr.FactorValue 0) Drain) ≡ None
no-level-but-labels = refl
