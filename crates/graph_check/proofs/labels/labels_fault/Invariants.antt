use Rattle.std.proofs.Common.{◌≡◌, ◌<◌, ℕ, true}
use Rattle.graph_check.specs.Faults.{labels_allowed}
use Rattle.graph_check.proofs.labels.labels_fault.Given as goal

abbrev pub invariant-loop-b : goal.invariant-loop-b
invariant-loop-b l = (k : ℕ) → k < l.b → labels_allowed l.p l.g k ≡ true
