use Rattle.std.proofs.Common.{◌≡◌, ◌+◌, ◌-◌, length, suc}
use Rattle.std.specs.List.{range_with_len}
use Rattle.custard_lower.specs.Values.{multiplied}
use Rattle.custard_lower.proofs.plans.NumberedPlan.multiplied.Given as goal

abbrev pub invariant-loop-k : goal.invariant-loop-k
invariant-loop-k l =
    multiplied l.self.trees l.self.plan.now l.valued (l.w + l.k) (range_with_len l.k (length l.self.plan.now.accesses - l.k))
    ≡ multiplied l.self.trees l.self.plan.now l.initial.valued (suc l.w) (range_with_len 1 (length l.self.plan.now.accesses - 1))
