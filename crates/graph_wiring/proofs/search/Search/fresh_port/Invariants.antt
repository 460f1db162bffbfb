use Rattle.std.proofs.Common.{◌<◌, ◌≤◌, ℕ}
use Rattle.graph_wiring.specs.Searching.{receiver, IsMet}
use Rattle.graph_wiring.proofs.search.Search.fresh_port.Given as goal

abbrev pub invariant-loop-port : goal.invariant-loop-port
invariant-loop-port l = (p : ℕ) → l.from ≤ p → p < l.port → IsMet l.self.progress.items (receiver l.g l.b p)
