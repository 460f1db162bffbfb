use Rattle.std.proofs.Common.{◌≡◌, true}
use Rattle.block_threads.proofs.hands.drain.Given as goal

abbrev pub invariant-loop : goal.invariant-loop
invariant-loop g l = record {
  can_next : (goal.iterator-loop g).can_next l.iterator';
  is_finite : (goal.iterator-loop g).is_finite l.iterator';
  channel : l.rx.channel ≡ l.fn.rx.channel;
  lost : l.fn.rx.lost ≡ true → l.rx.lost ≡ true;
}
