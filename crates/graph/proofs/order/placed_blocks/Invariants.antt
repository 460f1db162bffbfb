use Rattle.std.proofs.Common.{◌≤◌, ◌-◌, length}
use Rattle.graph.specs.Placing.{IsPlacing, AllWait, WaitsPast}
use Rattle.graph.proofs.order.placed_blocks.Given as goal

abbrev pub invariant-loop-next : goal.invariant-loop-next
invariant-loop-next l = record {
  kept : IsPlacing l.g l.placing.order.items l.placing.progress.items;
  wait : AllWait l.g l.placing.progress.items;
  past : WaitsPast l.g l.placing.order.items l.placing.progress.items l.next;
  within : l.next ≤ length l.placing.order.items;
}

abbrev pub decreases-loop-next : goal.decreases-loop-next
decreases-loop-next l = length l.g.blocks - l.next
