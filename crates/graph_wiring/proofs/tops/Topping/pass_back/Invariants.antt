use Rattle.std.proofs.Common.{◌<◌, ℕ}
use Rattle.graph.specs.Placing.{sender}
use Rattle.graph_wiring.specs.Topping.{top, IsTopping, TopsStay}
use Rattle.graph_wiring.proofs.tops.Topping.pass_back.Given as goal

abbrev pub invariant-loop-port : goal.invariant-loop-port
invariant-loop-port l = record {
  kept : IsTopping l.g l.order l.place l.passed l.self.given.items l.self.tops.items;
  stay : TopsStay l.fn.self.given.items l.fn.self.tops.items l.self.given.items l.self.tops.items;
  all : (p : ℕ) → p < l.port → 0 < top l.self.tops.items (sender l.g l.b p);
}
