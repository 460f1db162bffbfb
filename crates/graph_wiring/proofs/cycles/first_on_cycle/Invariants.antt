use Rattle.std.proofs.Common.{◌<◌, ℕ}
use Rattle.graph_wiring.specs.Topping.{KeepsTop}
use Rattle.graph_wiring.proofs.cycles.first_on_cycle.Given as goal

abbrev pub invariant-loop-b : goal.invariant-loop-b
invariant-loop-b l = (b : ℕ) → b < l.b → KeepsTop l.g l.tops.items b → ⊥
