use Rattle.std.proofs.Common.{◌≡◌, ◌+◌}
use Rattle.std.specs.List.{range_with_len}
use Rattle.custard_fuse.proofs.sharing.numbers_after.Given as goal

abbrev pub invariant-loop-k : goal.invariant-loop-k
invariant-loop-k l = l.numbers ≡ range_with_len (l.w + 1) l.k
