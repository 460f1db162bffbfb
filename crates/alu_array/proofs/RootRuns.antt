-- A new root makes the moves of its kind.
use Rattle.std.proofs.Common.{refl}
use Rattle.block_core.specs.Ports.{Streams}
use Rattle.block_core.specs.Kind.{RootKind, Fits}
use Rattle.block_core.specs.Runs.{Runs}
use Rattle.block_core.specs.Stands.{Stands}
use Rattle.block_core.proofs.Standing.{stands-start}
use Rattle.alu_array.specs.RootSteps.{root_steps}
use Rattle.alu_array.specs.declared.root_block.RootState.TheVariants.{Reference}

pub root-starts : (s : Streams) → Fits RootKind s → Stands (Runs root_steps Reference) RootKind s 0
root-starts s f = stands-start root_steps Reference RootKind s f (refl, (refl, refl))
