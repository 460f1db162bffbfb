-- Which graphs can be assembled over stored tensors.
use Rattle.std.specs.Prelude.{◌<◌, ◌≤◌, ℕ, ◌+◌, List, length}
use Rattle.sam_model.specs.Children.{Ranked}
use Rattle.graph.specs.declared.graphs.Kind.{Kind}
use Rattle.graph.specs.declared.graphs.Kind.TheVariants.{Scan, Intersect, Union, Array, Fill}
use Rattle.graph.specs.declared.graphs.Graph.{Graph}
use Rattle.graph.specs.Wiring.{block}

-- a block reads a tensor that is there, and levels count from 1
abbrev pub KindInRange : List Ranked → Kind → Type 0
KindInRange storages (Scan tensor level) = (tensor < length storages) × (1 ≤ level)
KindInRange storages (Array tensor) = tensor < length storages
KindInRange storages other = Unit {0}

abbrev pub KindsInRange : List Ranked → Graph → Type 0
KindsInRange storages g = (b : ℕ) → b < length g.blocks → KindInRange storages (block g b).kind

-- the payloads that a block brings together
abbrev pub payloads_of : Kind → ℕ
payloads_of (Intersect left right) = left + right
payloads_of (Union left right) = left + right
payloads_of (Fill payloads) = payloads
payloads_of other = 0

abbrev pub FewPayloads : Graph → Type 0
FewPayloads g = (b : ℕ) → b < length g.blocks → payloads_of (block g b).kind ≤ 8
