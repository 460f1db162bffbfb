-- The text of a graph that copies a vector, by hand: x(i) = b(i).
use Rattle.std.proofs.Common.{◌≡◌, ℕ, false, List, [], ◌∷◌, ◌++◌, codes, refl}
use Rattle.std.specs.Fmt.{digits}
use Rattle.sam_model.specs.declared.tensors.Format.TheVariants.{Compressed}
use Rattle.sam_model.specs.declared.tensors.Tensor.{Tensor}
use Rattle.sam_model.specs.declared.program.Factor.TheVariants.{Access}
use Rattle.sam_model.specs.declared.program.Program.{Program}
use Rattle.stream_model.specs.declared.labels.Tree.{Tree}
use Rattle.stream_model.specs.declared.labels.Tree.TheVariants as tree
use Rattle.stream_model.specs.declared.labels.Attr.{Attr}
use Rattle.stream_model.specs.declared.labels.Attr.TheVariants as attr
use Rattle.graph.specs.declared.graphs.Kind.{Kind}
use Rattle.graph.specs.declared.graphs.Kind.TheVariants.{Root, Scan, Array, DropValue, WriteLevel, WriteValue}
use Rattle.graph.specs.declared.graphs.Block.{Block}
use Rattle.graph.specs.declared.graphs.Channel.{Channel}
use Rattle.graph.specs.declared.graphs.Graph.{Graph}
use Rattle.serde_json.proofs.OnLiterals.{serde_json_on_literals}
use Rattle.graph_json.specs.Spelled.{graph_text}

abbrev vector : List ℕ → Tensor
vector name = record { name = name; dims = 4 ∷ []; formats = Compressed ∷ []; order = 0 ∷ []; file = codes "f" }

abbrev copy : Program
copy = record {
  tensors = vector (codes "b") ∷ [];
  result = vector (codes "x");
  left = 0 ∷ [];
  terms = (record { minus = false; factors = Access 0 (0 ∷ []) ∷ [] }) ∷ [];
  tops = [];
  var_names = codes "i" ∷ [];
  var_sizes = 4 ∷ [];
}

abbrev block_of : Kind → List ℕ → List ℕ → Block
block_of kind ins outs = record { kind = kind; ins = ins; outs = outs }

abbrev leads : ℕ → ℕ → ℕ → ℕ → Tree → Attr → Channel
leads from_block from_port to_block to_port tree attr = record {
  from_block = from_block;
  from_port = from_port;
  to_block = to_block;
  to_port = to_port;
  label = record { tree = tree; attr = attr };
}

abbrev copied : Graph
copied = record {
  blocks =
      block_of Root [] (0 ∷ [])
      ∷ block_of (Scan 0 1) (0 ∷ []) (1 ∷ 2 ∷ [])
      ∷ block_of (Array 0) (2 ∷ []) (3 ∷ [])
      ∷ block_of DropValue (1 ∷ 3 ∷ []) (4 ∷ 5 ∷ [])
      ∷ block_of (WriteLevel 1) (4 ∷ []) []
      ∷ block_of WriteValue (5 ∷ []) []
      ∷ [];
  channels =
      leads 0 0 1 0 tree.Root (attr.Literal 0)
      ∷ leads 1 0 3 0 (tree.Product 0 1 1) attr.Coordinate
      ∷ leads 1 1 2 0 (tree.Product 0 1 1) (attr.Rank 0)
      ∷ leads 2 0 3 1 (tree.Product 0 1 1) (attr.FactorValue 0)
      ∷ leads 3 0 4 0 (tree.Reduced 0 0 1 1) attr.Coordinate
      ∷ leads 3 1 5 0 (tree.Reduced 0 0 1 1) attr.Value
      ∷ [];
}

told : graph_text copy copied ≡
    codes "{\"blocks\":[{\"arg\":[],\"ins\":[],\"kind\":\"root\",\"name\":\"\",\"outs\":[0]},"
    ++ codes "{\"arg\":[1],\"ins\":[0],\"kind\":\"scan\",\"name\":\"b\",\"outs\":[1,2]},"
    ++ codes "{\"arg\":[],\"ins\":[2],\"kind\":\"array\",\"name\":\"b\",\"outs\":[3]},"
    ++ codes "{\"arg\":[],\"ins\":[1,3],\"kind\":\"dropvalue\",\"name\":\"\",\"outs\":[4,5]},"
    ++ codes "{\"arg\":[1],\"ins\":[4],\"kind\":\"writelevel\",\"name\":\"x\",\"outs\":[]},"
    ++ codes "{\"arg\":[],\"ins\":[5],\"kind\":\"writevalue\",\"name\":\"x\",\"outs\":[]}],"
    ++ codes "\"channels\":[{\"from\":[0,0],\"label\":\"root\",\"to\":[1,0]},"
    ++ codes "{\"from\":[1,0],\"label\":\"product 0 1 1 coordinate\",\"to\":[3,0]},"
    ++ codes "{\"from\":[1,1],\"label\":\"product 0 1 1 rank 0\",\"to\":[2,0]},"
    ++ codes "{\"from\":[2,0],\"label\":\"product 0 1 1 factor 0\",\"to\":[3,1]},"
    ++ codes "{\"from\":[3,0],\"label\":\"reduced 0 0 1 1 coordinate\",\"to\":[4,0]},"
    ++ codes "{\"from\":[3,1],\"label\":\"reduced 0 0 1 1 value\",\"to\":[5,0]}]}"
    ++ 10 ∷ []
unfolding digits serde_json_on_literals
told = refl
