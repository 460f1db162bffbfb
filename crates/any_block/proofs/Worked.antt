-- Worked cases: a stored vector is scanned, and its coordinates and its values are written.
use Rattle.std.specs.Prelude.{◌≡◌, ℕ, zero, suc, List, [], ◌∷◌, refl}
use Rattle.std.proofs.Common.{arith}
use Rattle.stream_tokens.specs.declared.Token.TheVariants.{Item, Stop, Done}
use Rattle.stream_model.specs.declared.labels.Label.{Label}
use Rattle.stream_model.specs.declared.labels.Tree.TheVariants as tree
use Rattle.stream_model.specs.declared.labels.Attr.TheVariants as attr
use Rattle.sam_model.specs.Children.{Ranked}
use Rattle.graph.specs.declared.graphs.Kind.TheVariants.{Root, Scan, Cast, Drain, Intersect, Union, Array, Mul, Fill, WriteLevel, WriteValue}
use Rattle.graph.specs.declared.graphs.Channel.{Channel}
use Rattle.graph.specs.declared.graphs.Graph.{Graph}
use Rattle.graph.specs.Assembly.{KindInRange, KindsInRange, payloads_of, FewPayloads}
use Rattle.graph.specs.Writers.{first_block, writes_level, writes_values, level_stream, value_stream, written_listing}

-- 5 at coordinate 1, and 7 at 3
vectors : List Ranked
vectors = record { counts = 1 ∷ 2 ∷ []; children = (((1, 0) ∷ (3, 1) ∷ []) ∷ []) ∷ []; values = 5 ∷ 7 ∷ [] } ∷ []

root_label : Label
root_label = record { tree = tree.Root; attr = attr.Literal 0 }

from_to : ℕ → ℕ → ℕ → ℕ → Channel
from_to b p c q = record { from_block = b; from_port = p; to_block = c; to_port = q; label = root_label }

-- the root reference is copied, once for nothing; the writers are the last blocks
reader : Graph
reader = record {
  blocks = record { kind = Root; ins = []; outs = 0 ∷ [] }
      ∷ record { kind = Cast 2; ins = 0 ∷ []; outs = 1 ∷ 2 ∷ [] }
      ∷ record { kind = Drain; ins = 1 ∷ []; outs = [] }
      ∷ record { kind = Scan 0 1; ins = 2 ∷ []; outs = 3 ∷ 4 ∷ [] }
      ∷ record { kind = Array 0; ins = 4 ∷ []; outs = 5 ∷ [] }
      ∷ record { kind = WriteValue; ins = 5 ∷ []; outs = [] }
      ∷ record { kind = WriteLevel 1; ins = 3 ∷ []; outs = [] }
      ∷ [];
  channels = from_to 0 0 1 0 ∷ from_to 1 0 2 0 ∷ from_to 1 1 3 0 ∷ from_to 3 0 6 0 ∷ from_to 3 1 4 0 ∷ from_to 4 0 5 0 ∷ [];
}

-- ---- what is kept

first_level : first_block (writes_level 1) reader ≡ 6
unfolding reader
first_level = refl

first_values : first_block writes_values reader ≡ 5
unfolding reader
first_values = refl

no_second_level : first_block (writes_level 2) reader ≡ 7
unfolding reader
no_second_level = refl

coordinates : level_stream vectors reader 1 ≡ Item 1 ∷ Item 3 ∷ Stop 0 ∷ Done ∷ []
unfolding reader vectors from_to
coordinates = refl

values : value_stream vectors reader ≡ Item 5 ∷ Item 7 ∷ Stop 0 ∷ Done ∷ []
unfolding reader vectors from_to
values = refl

listed : written_listing vectors reader 1 ≡ record { segs = (0 ∷ 2 ∷ []) ∷ []; crds = (1 ∷ 3 ∷ []) ∷ []; vals = 5 ∷ 7 ∷ [] }
unfolding reader vectors from_to
listed = refl

listed_below : written_listing vectors reader 2 ≡ record { segs = (0 ∷ 2 ∷ []) ∷ (0 ∷ []) ∷ []; crds = (1 ∷ 3 ∷ []) ∷ [] ∷ []; vals = 5 ∷ 7 ∷ [] }
unfolding reader vectors from_to
listed_below = refl

-- ---- what can be assembled

reader_in_range : KindsInRange vectors reader
unfolding reader vectors
reader_in_range zero h = tt
reader_in_range (suc zero) h = tt
reader_in_range (suc (suc zero)) h = tt
reader_in_range (suc (suc (suc zero))) h = (omega arith, omega arith)
reader_in_range (suc (suc (suc (suc zero)))) h = omega arith
reader_in_range (suc (suc (suc (suc (suc zero))))) h = tt
reader_in_range (suc (suc (suc (suc (suc (suc zero)))))) h = tt
reader_in_range (suc (suc (suc (suc (suc (suc (suc n))))))) h = absurd (omega (arith, h))

no_second_tensor : KindInRange vectors (Array 1) → ⊥
unfolding vectors
no_second_tensor h = omega (arith, h)

levels_from_one : KindInRange vectors (Scan 0 0) → ⊥
levels_from_one h = omega (arith, h.1)

payloads : (payloads_of (Intersect 3 4) ≡ 7) × (payloads_of (Union 8 1) ≡ 9) × (payloads_of (Fill 2) ≡ 2) × (payloads_of Mul ≡ 0)
payloads = (refl, refl, refl, refl)

too_many : FewPayloads (record { blocks = record { kind = Union 8 1; ins = []; outs = [] } ∷ []; channels = [] }) → ⊥
too_many h = omega (arith, h 0 (omega arith))
