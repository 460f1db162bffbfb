use Rattle.std.proofs.Common.{◌<◌, ◌-◌, length, get_or}
use Rattle.graph_wiring.specs.Topping.{top, IsTopping, TopsStay}
use Rattle.graph_wiring.proofs.tops.Topping.spread.Given as goal

abbrev pub invariant-loop-passed : goal.invariant-loop-passed
invariant-loop-passed l = record {
  kept : IsTopping l.g l.order l.place l.passed l.self.given.items l.self.tops.items;
  stay : TopsStay l.fn.self.given.items l.fn.self.tops.items l.self.given.items l.self.tops.items;
  here : 0 < top l.self.tops.items (get_or l.order l.place 0);
}

abbrev pub decreases-loop-passed : goal.decreases-loop-passed
decreases-loop-passed l = length l.g.blocks - l.passed
