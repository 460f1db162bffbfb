use Rattle.std.proofs.Common.{◌≡◌, ◌<◌, ◌+◌, ◌^◌, ◌++◌, drop, map}
use Rattle.custard_lower.specs.Drafts.{outputs_of}
use Rattle.custard_lower.specs.Nests.{repeat}
use Rattle.custard_lower.proofs.plans.NumberedPlan.repeat_each.Given as goal

abbrev pub invariant-loop-f : goal.invariant-loop-f
invariant-loop-f l = record {
  made :
      l.made ++ map (repeat l.self.trees l.self.plan.now l.d l.met.coordinates l.references) (drop l.f-index l.factors)
      ≡ l.fn.made ++ map (repeat l.self.trees l.self.plan.now l.d l.met.coordinates l.references) l.factors;
  count : outputs_of l.made ≡ l.first + l.f-index;
  room : outputs_of l.made < 2 ^ 64;
}
