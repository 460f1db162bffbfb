use Rattle.std.proofs.Common.{ℕ}
use Rattle.std.specs.List.{All}
use Rattle.block_threads.specs.Ports.{HasRoom}
use Rattle.block_threads.specs.Working.{HasMoved}
use Rattle.block_threads.proofs.working.work.Given as goal

abbrev pub invariant-loop : goal.invariant-loop
invariant-loop g l = record {
  can_next : (goal.iterator-loop g).can_next l.iterator';
  is_finite : (goal.iterator-loop g).is_finite l.iterator';
  moved : (n : ℕ) × HasMoved g.B.BlockStep g.W.Streams.streams l.fn.block l.fn.ins.items l.fn.outs.items n l.block l.ins.items l.outs.items;
  room : All HasRoom l.outs.items;
}
