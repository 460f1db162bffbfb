use Rattle.std.proofs.Common.{◌≡◌, ◌<◌, ◌+◌, ◌*◌, ◌^◌, ◌++◌, drop, map}
use Rattle.custard_lower.specs.Drafts.{outputs_of}
use Rattle.custard_lower.specs.Nests.{scan}
use Rattle.custard_lower.proofs.plans.NumberedPlan.scan_each.Given as goal

abbrev pub invariant-loop-f : goal.invariant-loop-f
invariant-loop-f l = record {
  made :
      l.made ++ map (scan l.self.trees l.self.plan.now l.d l.references) (drop l.f-index l.factors)
      ≡ l.fn.made ++ map (scan l.self.trees l.self.plan.now l.d l.references) l.factors;
  count : outputs_of l.made ≡ l.first + 2 * l.f-index;
  room : outputs_of l.made < 2 ^ 64;
}
