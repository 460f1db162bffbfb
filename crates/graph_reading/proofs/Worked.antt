-- Some texts over a vector b and a matrix c, and the graphs that they spell.
use Rattle.std.proofs.Common.{◌≡◌, ◌++◌, refl, List, [], ◌∷◌, codes}
use Rattle.std.specs.Prelude.{ℕ, Option, Some, None, option_and_then}
use Rattle.serde_json.specs.Read.{read}
use Rattle.serde_json.proofs.OnLiterals.{serde_json_on_literals}
use Rattle.sam_model.specs.declared.tensors.Format.TheVariants.{Compressed}
use Rattle.sam_model.specs.declared.program.Program.{Program}
use Rattle.stream_model.specs.declared.labels.Tree.TheVariants as tree
use Rattle.stream_model.specs.declared.labels.Attr.TheVariants as attr
use Rattle.graph.specs.declared.graphs.Kind.{Kind}
use Rattle.graph.specs.declared.graphs.Kind.TheVariants.{Root, Scan, Intersect, Array, Const}
use Rattle.graph.specs.declared.graphs.Graph.{Graph}
use Rattle.graph_reading.specs.Graphs.{kind_in, graph_in}

abbrev two_tensors : Program
two_tensors = record {
  tensors =
      record { name = codes "b"; dims = 4 ∷ []; formats = Compressed ∷ []; order = 0 ∷ []; file = codes "b" }
      ∷ record { name = codes "c"; dims = 4 ∷ 4 ∷ []; formats = Compressed ∷ Compressed ∷ []; order = 0 ∷ 1 ∷ []; file = codes "c" }
      ∷ [];
  result = record { name = codes "x"; dims = []; formats = []; order = []; file = [] };
  left = [];
  terms = [];
  tops = [];
  var_names = [];
  var_sizes = [];
}

-- the graph of a text of ASCII
abbrev spelled : List ℕ → Option Graph
spelled text = option_and_then (graph_in two_tensors) (read text)

abbrev no_graph : Graph
no_graph = record { blocks = []; channels = [] }

without_blocks : spelled (codes "{\"blocks\":[],\"channels\":[]}") ≡ Some no_graph
unfolding serde_json_on_literals
without_blocks = refl

-- keys in another order, with others among them, and blanks
in_any_order :
    spelled (codes "{ \"channels\": [{\"to\": [1, 0], \"by\": null, \"label\": \"root\", \"from\": [0, 0]}],\n"
    ++ codes "  \"blocks\": [{\"outs\": [0], \"kind\": \"root\", \"name\": \"any\", \"ins\": [], \"arg\": []}] }")
    ≡ Some (record {
      blocks = record { kind = Root; ins = []; outs = 0 ∷ [] } ∷ [];
      channels =
          record { from_block = 0; from_port = 0; to_block = 1; to_port = 0; label = record { tree = tree.Root; attr = attr.Literal 0 } } ∷ [];
    })
unfolding serde_json_on_literals
in_any_order = refl

-- the last value of a key counts
last_of_two : spelled (codes "{\"blocks\":1,\"blocks\":[],\"channels\":[]}") ≡ Some no_graph
unfolding serde_json_on_literals
last_of_two = refl

first_of_two : spelled (codes "{\"blocks\":[],\"blocks\":1,\"channels\":[]}") ≡ None
unfolding serde_json_on_literals
first_of_two = refl

without_channels : spelled (codes "{\"blocks\":[]}") ≡ None
unfolding serde_json_on_literals
without_channels = refl

unended : spelled (codes "{\"blocks\":[],\"channels\":[]") ≡ None
unfolding serde_json_on_literals
unended = refl

-- what no key of a graph names has to be JSON too
bad_elsewhere : spelled (codes "{\"blocks\":[],\"channels\":[],\"by\":nul}") ≡ None
unfolding serde_json_on_literals
bad_elsewhere = refl

end_of_three : spelled (codes "{\"blocks\":[],\"channels\":[{\"from\":[0,0,0],\"label\":\"root\",\"to\":[0,0]}]}") ≡ None
unfolding serde_json_on_literals
end_of_three = refl

port_past_32_bits : spelled (codes "{\"blocks\":[],\"channels\":[{\"from\":[0,4294967296],\"label\":\"root\",\"to\":[0,0]}]}") ≡ None
unfolding serde_json_on_literals
port_past_32_bits = refl

no_label : spelled (codes "{\"blocks\":[],\"channels\":[{\"from\":[0,0],\"label\":\"Root\",\"to\":[0,0]}]}") ≡ None
unfolding serde_json_on_literals
no_label = refl

-- ---- kinds

-- of a word, its numbers and a name
abbrev kind_told : List ℕ → List ℕ → List ℕ → Option Kind
kind_told word numbers name =
    option_and_then (kind_in two_tensors)
    (read (codes "{\"kind\":\"" ++ word ++ codes "\",\"arg\":[" ++ numbers ++ codes "],\"name\":\"" ++ name ++ codes "\"}"))

scan_of_the_last : kind_told (codes "scan") (codes "2") (codes "c") ≡ Some (Scan 1 2)
unfolding serde_json_on_literals
scan_of_the_last = refl

scan_past_the_dimensions : kind_told (codes "scan") (codes "2") (codes "b") ≡ None
unfolding serde_json_on_literals
scan_past_the_dimensions = refl

scan_of_level_0 : kind_told (codes "scan") (codes "0") (codes "b") ≡ None
unfolding serde_json_on_literals
scan_of_level_0 = refl

scan_of_the_result : kind_told (codes "scan") (codes "1") (codes "x") ≡ None
unfolding serde_json_on_literals
scan_of_the_result = refl

array_of_a_vector : kind_told (codes "array") [] (codes "b") ≡ Some (Array 0)
unfolding serde_json_on_literals
array_of_a_vector = refl

array_with_a_number : kind_told (codes "array") (codes "1") (codes "b") ≡ None
unfolding serde_json_on_literals
array_with_a_number = refl

eight_payloads : kind_told (codes "intersect") (codes "3,5") [] ≡ Some (Intersect 3 5)
unfolding serde_json_on_literals
eight_payloads = refl

nine_payloads : kind_told (codes "intersect") (codes "4,5") [] ≡ None
unfolding serde_json_on_literals
nine_payloads = refl

largest_constant : kind_told (codes "const") (codes "18446744073709551615") [] ≡ Some (Const 18446744073709551615)
unfolding serde_json_on_literals
largest_constant = refl

-- such numbers aren't whole ones to JSON's reader
with_a_point : kind_told (codes "const") (codes "1.0") [] ≡ None
unfolding serde_json_on_literals
with_a_point = refl

minus_nothing : kind_told (codes "const") (codes "-0") [] ≡ None
unfolding serde_json_on_literals
minus_nothing = refl

level_of_a_byte : kind_told (codes "writelevel") (codes "256") [] ≡ None
unfolding serde_json_on_literals
level_of_a_byte = refl

unknown_word : kind_told (codes "Scan") (codes "1") (codes "b") ≡ None
unfolding serde_json_on_literals
unknown_word = refl
