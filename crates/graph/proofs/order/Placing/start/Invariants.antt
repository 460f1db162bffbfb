use Rattle.std.proofs.Common.{◌≡◌, ◌<◌, ℕ, length}
use Rattle.graph.specs.declared.order.Progress.TheVariants.{WaitsAt}
use Rattle.graph.specs.Wiring.{block}
use Rattle.graph.specs.Placing.{reached, IsPlacing}
use Rattle.graph.proofs.order.Placing.start.Given as goal

abbrev pub invariant-loop-b : goal.invariant-loop-b
invariant-loop-b l = record {
  kept : IsPlacing l.g l.placing.order.items l.placing.progress.items;
  wait : (a q : ℕ) → a < l.b → reached l.placing.progress.items a ≡ WaitsAt q → q < length (block l.g a).ins;
}
