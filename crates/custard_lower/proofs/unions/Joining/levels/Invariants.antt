use Rattle.std.proofs.Common.{◌≡◌, ◌<◌, ◌+◌, ◌^◌, length}
use Rattle.custard_lower.specs.Unions.{joined_levels}
use Rattle.custard_lower.proofs.unions.Joining.levels.Given as goal

abbrev pub invariant-loop-k : goal.invariant-loop-k
invariant-loop-k l = record {
  joined : l.front ≡ joined_levels l.self.last l.self.levels l.fn.made l.left l.right l.k;
  count : length l.front.coordinates ≡ l.k;
  told : l.front.told + 1 < 2 ^ 64;
}
