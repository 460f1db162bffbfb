-- The blocks that a maker makes.
use Rattle.std.specs.Prelude.{◌≡◌, ℕ, List, map, slice_get, Some}
use Rattle.sam_model.specs.Children.{Ranked}
use Rattle.block_core.specs.Ports.{Streams}
use Rattle.block_core.specs.Kind.{Kind}
use Rattle.block_core.specs.Stands.{StandsAtStart}
use Rattle.graph.specs.declared.graphs.Graph.{Graph}
use Rattle.graph.specs.Meaning.{meaning}
use Rattle.graph.specs.WholeStreams.{Consistent}
use Rattle.plays.specs.Net.{Net}
use Rattle.stepper.specs.NetOf.{net_of}

-- each block is before its first move, on all whole inputs that fit its kind
abbrev pub AreAtStart : {B : Type 0} → (B → Kind) → (B → Streams → ℕ → Type 0) → List B → Type 0
AreAtStart kind stands blocks = (b : ℕ) (x : _) → slice_get blocks b ≡ Some x → StandsAtStart (stands x) (kind x)

-- the kinds of a graph's blocks over stored tensors, in order
abbrev pub kinds_over : List Ranked → Graph → List Kind
kinds_over storages g = map (λ block. meaning storages block.kind) g.blocks

-- the kinds are those of the graph's blocks over these stored tensors, and the whole inputs of every block fit
pub record MakesFor (storages : List Ranked) (g : Graph) (kinds : List Kind) : Type 0 where
  pub own : kinds ≡ kinds_over storages g
  pub consistent : Consistent storages g

-- whatever these stored tensors are, this holds of the graph's net over them
abbrev pub WhateverStored : Graph → List Kind → (Net → Type 0) → Type 0
WhateverStored g kinds P = (storages : List Ranked) → MakesFor storages g kinds → P (net_of storages g)
