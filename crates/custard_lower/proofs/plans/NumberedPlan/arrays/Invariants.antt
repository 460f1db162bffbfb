use Rattle.std.proofs.Common.{◌≡◌, ◌<◌, ◌+◌, ◌^◌, ◌++◌, map}
use Rattle.std.specs.List.{range_with_len}
use Rattle.custard_lower.specs.Drafts.{outputs_of}
use Rattle.custard_lower.specs.Values.{array}
use Rattle.custard_lower.proofs.plans.NumberedPlan.arrays.Given as goal

abbrev pub invariant-loop-f : goal.invariant-loop-f
invariant-loop-f l = record {
  made : l.made ≡ l.fn.made ++ map (array l.self.trees l.self.plan.now l.references) (range_with_len 0 l.f);
  count : outputs_of l.made ≡ l.first + l.f;
  room : outputs_of l.made < 2 ^ 64;
}
