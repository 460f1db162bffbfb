use Rattle.std.proofs.Common.{◌≡◌, ◌≤◌, length, drop}
use Rattle.block_threads.proofs.Gathering.{GivenBack}
use Rattle.block_threads.proofs.run.blocks_of.Given as goal

abbrev pub invariant-loop-task : goal.invariant-loop-task
invariant-loop-task g l = record {
  can_next : (goal.iterator-loop-task g).can_next l.task-iterator;
  is_finite : (goal.iterator-loop-task g).is_finite l.task-iterator;
  rest : l.task-iterator.rest.items ≡ drop (length l.blocks.items) l.fn.tasks.items;
  within : length l.blocks.items ≤ length l.fn.tasks.items;
  len : l.task-iterator.rest.len ≡ length l.task-iterator.rest.items;
  back : GivenBack l.fn.tasks.items l.blocks.items;
}
