use Rattle.std.proofs.Common.{◌≡◌, length}
use Rattle.custard_lower.specs.Nests.{nest}
use Rattle.custard_lower.proofs.plans.NumberedPlan.nest.Given as goal

abbrev pub invariant-loop-d : goal.invariant-loop-d
invariant-loop-d l = record {
  nest : l.nest ≡ nest l.self.trees l.self.plan.now l.d l.fn.made;
  references : length l.nest.references ≡ length l.self.plan.now.accesses;
  levels : length l.nest.coordinates ≡ l.d;
}
