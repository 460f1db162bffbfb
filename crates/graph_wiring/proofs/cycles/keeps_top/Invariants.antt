use Rattle.std.proofs.Common.{◌≡◌, ◌<◌, ℕ}
use Rattle.graph_wiring.specs.Searching.{receiver}
use Rattle.graph_wiring.specs.Topping.{top}
use Rattle.graph_wiring.proofs.cycles.keeps_top.Given as goal

abbrev pub invariant-loop-port : goal.invariant-loop-port
invariant-loop-port l = (p : ℕ) → p < l.port → top l.tops (receiver l.g l.b p) ≡ top l.tops l.b → ⊥
