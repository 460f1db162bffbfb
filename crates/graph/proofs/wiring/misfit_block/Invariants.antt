use Rattle.std.proofs.Common.{◌<◌, ℕ}
use Rattle.graph.specs.Joined.{BlockFits}
use Rattle.graph.proofs.wiring.misfit_block.Given as goal

abbrev pub invariant-loop-b : goal.invariant-loop-b
invariant-loop-b l = (b : ℕ) → b < l.b → BlockFits l.g b
