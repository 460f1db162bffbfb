use Rattle.std.proofs.Common.{◌≡◌, ◌<◌, ℕ, true, length}
use Rattle.graph.specs.Wiring.{block}
use Rattle.graph_check.specs.Writers.{writes_first}
use Rattle.graph_check.proofs.writers.Writers.surplus.Given as goal

abbrev pub invariant-loop-b : goal.invariant-loop-b
invariant-loop-b l =
    (k : ℕ) → k < l.b → writes_first (length l.self.levels) l.self.graph.now k (block l.self.graph.now k).kind ≡ true
