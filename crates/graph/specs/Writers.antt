-- What the writers of a graph leave.
use Rattle.std.specs.Prelude.{ℕ, Bool, true, false, List, eqb}
use Rattle.std.specs.List.{position_or_len, range_with_len}
use mathlib.Core.List.{map}
use Rattle.stream_tokens.specs.declared.Token.{Token}
use Rattle.sam_model.specs.declared.tensors.Written.{Written}
use Rattle.sam_model.specs.Children.{Ranked}
use Rattle.block_core.specs.Ports.{port}
use Rattle.block_core.specs.Written.{segs_of, crds_of, vals_of}
use Rattle.graph.specs.declared.graphs.Kind.{Kind}
use Rattle.graph.specs.declared.graphs.Kind.TheVariants.{WriteLevel, WriteValue}
use Rattle.graph.specs.declared.graphs.Graph.{Graph}
use Rattle.graph.specs.WholeStreams.{whole_inputs}

abbrev pub writes_level : ℕ → Kind → Bool
writes_level d (WriteLevel level) = eqb level d
writes_level d other = false

abbrev pub writes_values : Kind → Bool
writes_values WriteValue = true
writes_values other = false

-- the first block of such a kind; where there is none, the number of blocks, at which nothing stands
abbrev pub first_block : (Kind → Bool) → Graph → ℕ
first_block test g = position_or_len (λ b. test b.kind) g.blocks

-- the whole stream that the writer of a level takes, and the one that the writer of the values takes
abbrev pub level_stream : List Ranked → Graph → ℕ → List Token
level_stream storages g d = port 0 (whole_inputs storages g (first_block (writes_level d) g))

abbrev pub value_stream : List Ranked → Graph → List Token
value_stream storages g = port 0 (whole_inputs storages g (first_block writes_values g))

-- the arrays of the levels from 1 on, and the values; a level that no block writes has the arrays of an empty stream
abbrev pub written_listing : List Ranked → Graph → ℕ → Written
written_listing storages g levels = record {
  segs = map (λ d. segs_of d (level_stream storages g d)) (range_with_len 1 levels);
  crds = map (λ d. crds_of (level_stream storages g d)) (range_with_len 1 levels);
  vals = vals_of (value_stream storages g);
}
