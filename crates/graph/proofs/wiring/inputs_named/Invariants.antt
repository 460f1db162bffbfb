use Rattle.std.proofs.Common.{◌<◌, ℕ}
use Rattle.graph.specs.Wiring.{NamesInput}
use Rattle.graph.proofs.wiring.inputs_named.Given as goal

abbrev pub invariant-loop-port : goal.invariant-loop-port
invariant-loop-port l = (p : ℕ) → p < l.port → NamesInput l.g l.b p
