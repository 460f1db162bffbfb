use Rattle.std.proofs.Common.{◌<◌, ℕ}
use Rattle.graph.specs.Wiring.{NamesOutput}
use Rattle.graph.proofs.wiring.outputs_named.Given as goal

abbrev pub invariant-loop-port : goal.invariant-loop-port
invariant-loop-port l = (p : ℕ) → p < l.port → NamesOutput l.g l.b p
