-- The machine of a graph that computes a program's tensor.
use Rattle.std.proofs.Common.{◌≡◌, List, ap, sym, subst}
use Rattle.sam_model.specs.declared.tensors.Entries.{Entries}
use Rattle.sam_model.specs.declared.program.Program.{Program}
use Rattle.sam_model.specs.Children.{Ranked}
use Rattle.graph.specs.declared.graphs.Graph.{Graph}
use Rattle.graph.specs.WholeStreams.{Consistent}
use Rattle.graph.specs.Assembly.{KindsInRange}
use Rattle.stepper.specs.NetOf.{net_of}
use Rattle.custard_lower.specs.Lowered.{Carries, Computes, storages_of}
use Rattle.inputs.specs.Tensors.{AreStored}
use Rattle.machines.specs.Runnable.{Runnable}

module _ (p : Program) (g : Graph) (computes : Computes p g) (es : List Entries) (storages : List Ranked) (are : AreStored p.tensors es storages) where
  carries : Carries p g es
  carries = computes.carries es are.each

  -- it runs over the program's tensors, as they are stored
  pub program-runs : Runnable storages g
  program-runs = record {
    formed = computes.formed;
    few_blocks = computes.few_blocks;
    few_channels = computes.few_channels;
    few_payloads = computes.few_payloads;
    in_range = subst (λ s. KindsInRange s g) (sym are.are_stored) carries.in_range;
    consistent = subst (λ s. Consistent s g) (sym are.are_stored) carries.consistent;
  }

  -- its net is that over the program's entries
  pub same-net : net_of storages g ≡ net_of (storages_of p es) g
  same-net = ap (λ (s : List Ranked). net_of s g) are.are_stored
