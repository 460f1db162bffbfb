use Rattle.std.proofs.Common.{◌≡◌, ◌<◌, ℕ, []}
use Rattle.graph_wiring.specs.Searching.{IsMet, IsSearch}
use Rattle.graph_wiring.proofs.search.closing_order.Given as goal

abbrev pub invariant-loop-b : goal.invariant-loop-b
invariant-loop-b l = record {
  kept : IsSearch l.g l.search.stack.items l.search.order.items l.search.progress.items;
  closed : l.search.stack.items ≡ [];
  met : (b : ℕ) → b < l.b → IsMet l.search.progress.items b;
}
