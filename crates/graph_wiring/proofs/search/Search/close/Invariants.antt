use Rattle.std.specs.List.{sum_by}
use Rattle.graph_wiring.specs.Searching.{steps_of, IsSearch, StayMet}
use Rattle.graph_wiring.proofs.search.Search.close.Given as goal

abbrev pub invariant-loop-self : goal.invariant-loop-self
invariant-loop-self l = record {
  kept : IsSearch l.g l.self.stack.items l.self.order.items l.self.progress.items;
  met : StayMet l.fn.self.progress.items l.self.progress.items;
}

abbrev pub decreases-loop-self : goal.decreases-loop-self
decreases-loop-self l = sum_by steps_of l.self.progress.items
