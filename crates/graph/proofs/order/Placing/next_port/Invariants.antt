use Rattle.std.proofs.Common.{◌<◌, ◌≤◌, ℕ}
use Rattle.graph.specs.Placing.{sender, BlockPlaced}
use Rattle.graph.proofs.order.Placing.next_port.Given as goal

abbrev pub invariant-loop-port : goal.invariant-loop-port
invariant-loop-port l = (p : ℕ) → l.from ≤ p → p < l.port → BlockPlaced l.self.progress.items (sender l.g l.b p)
