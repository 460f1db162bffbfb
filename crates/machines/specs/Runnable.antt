-- Which graphs a machine runs over stored tensors.
use Rattle.std.specs.Prelude.{◌<◌, ◌^◌, List, length}
use Rattle.sam_model.specs.Children.{Ranked}
use Rattle.graph.specs.declared.graphs.Graph.{Graph}
use Rattle.graph.specs.Wiring.{WellFormed}
use Rattle.graph.specs.WholeStreams.{Consistent}
use Rattle.graph.specs.Assembly.{KindsInRange, FewPayloads}

-- The graph is well formed and not too large, its blocks can be assembled over the stored tensors, and all streams fit.
pub record Runnable (storages : List Ranked) (g : Graph) : Type 0 where
  pub formed : WellFormed g
  pub few_blocks : length g.blocks < 2 ^ 32
  pub few_channels : length g.channels < 2 ^ 32
  pub few_payloads : FewPayloads g
  pub in_range : KindsInRange storages g
  pub consistent : Consistent storages g
