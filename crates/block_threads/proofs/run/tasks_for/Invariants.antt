use Rattle.std.proofs.Common.{◌≡◌, ◌≤◌, length, drop}
use Rattle.block_threads.specs.Wires.{WaitFrom}
use Rattle.block_threads.proofs.Gathering.{MadeFor}
use Rattle.block_threads.proofs.run.tasks_for.Given as goal

abbrev pub invariant-loop-block : goal.invariant-loop-block
invariant-loop-block g l = record {
  can_next : (goal.iterator-loop-block g).can_next l.block-iterator;
  is_finite : (goal.iterator-loop-block g).is_finite l.block-iterator;
  rest : l.block-iterator.rest.items ≡ drop (length l.tasks.items) l.fn.blocks.items;
  within : length l.tasks.items ≤ length l.fn.blocks.items;
  len : l.block-iterator.rest.len ≡ length l.block-iterator.rest.items;
  waits : WaitFrom l.g (length l.tasks.items) l.wires.senders.items l.wires.receivers.items;
  made : MadeFor l.g l.fn.blocks.items l.tasks.items;
}
