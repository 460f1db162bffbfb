use Rattle.std.proofs.Common.{◌≡◌, ◌++◌, map, length}
use Rattle.machine_tests.proofs.product.refusing.Given as goal

abbrev pub invariant-loop-block : goal.invariant-loop-block
invariant-loop-block g l = record {
  can_next : (goal.iterator-loop-block g).can_next l.block-iterator;
  is_finite : (goal.iterator-loop-block g).is_finite l.block-iterator;
  len : l.block-iterator.rest.len ≡ length l.block-iterator.rest.items;
  whole : map (λ r. r.block) l.made.items ++ l.block-iterator.rest.items ≡ l.fn.blocks.items;
}
