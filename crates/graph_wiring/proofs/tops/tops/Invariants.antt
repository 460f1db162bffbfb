use Rattle.std.proofs.Common.{length}
use Rattle.graph_wiring.specs.Topping.{IsTopping}
use Rattle.graph_wiring.proofs.Topping.{TopsAbove}
use Rattle.graph_wiring.proofs.tops.tops.Given as goal

abbrev pub invariant-loop-place : goal.invariant-loop-place
invariant-loop-place l = record {
  kept : IsTopping l.g l.order l.place (length l.topping.given.items) l.topping.given.items l.topping.tops.items;
  above : TopsAbove l.order l.place l.topping.tops.items;
}
