-- The graph that a command speaks of.
use Rattle.std.specs.Prelude.{◌≡◌}
use Rattle.sam_model.specs.declared.program.Program.{Program}
use Rattle.graph.specs.declared.graphs.Graph.{Graph}
use Rattle.custard_lower.specs.Lowered.{Computes, low}
use Rattle.custard_fuse.specs.Fusing.{fus}
use Rattle.words.specs.declared.asking.Lowering.{Lowering}
use Rattle.words.specs.declared.asking.Lowering.TheVariants.{Plain, Fused}

-- the graph of a program by the lowering that the words choose
abbrev pub chosen : Lowering → Program → Graph
chosen Plain p = low p
chosen Fused p = fus p

-- it is that graph, and computes the tensor of the program
pub record IsChosen (lowering : Lowering) (p : Program) (g : Graph) : Type 0 where
  pub is_chosen : g ≡ chosen lowering p
  pub computes : Computes p g
