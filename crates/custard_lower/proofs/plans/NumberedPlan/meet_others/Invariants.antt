use Rattle.std.proofs.Common.{◌≡◌, ◌<◌, ◌+◌, ◌*◌, drop, length}
use Rattle.std.specs.List.{All}
use Rattle.custard_lower.specs.Nests.{all_met}
use Rattle.custard_lower.proofs.plans.NumberedPlan.meet_others.Given as goal

abbrev pub invariant-loop-f : goal.invariant-loop-f
invariant-loop-f l = record {
  all :
      all_met l.self.trees l.self.plan.now l.d l.made l.met l.next (drop l.f-index l.factors)
      ≡ all_met l.self.trees l.self.plan.now l.d l.initial.made l.initial.met l.initial.next l.factors;
  below : All (λ f. f < 8) l.met.factors;
  few : length l.met.factors ≡ length l.initial.met.factors + l.f-index;
  next : l.next ≡ l.initial.next + 2 * l.f-index;
}
