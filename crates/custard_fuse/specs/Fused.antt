-- What is promised of the fused graph of a program.
use Rattle.std.specs.Prelude.{◌≡◌}
use Rattle.sam_model.specs.declared.program.Program.{Program}
use Rattle.graph.specs.declared.graphs.Graph.{Graph}
use Rattle.custard_lower.specs.Lowered.{Computes}
use Rattle.custard_fuse.specs.Fusing.{fus}

-- the graph of a program by the fused lowering
pub record Fused (p : Program) (g : Graph) : Type 0 where
  pub is_fus : g ≡ fus p
  pub computes : Computes p g
