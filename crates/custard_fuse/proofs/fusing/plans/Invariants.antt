use Rattle.std.proofs.Common.{◌≡◌, map}
use Rattle.std.specs.List.{All, range_with_len}
use Rattle.label_rules.specs.Plans.{PlanIsSmall}
use Rattle.label_rules.specs.TermLabels.{plan_at}
use Rattle.custard_fuse.proofs.fusing.plans.Given as goal

abbrev pub invariant-loop-n : goal.invariant-loop-n
invariant-loop-n l = record {
  plans : l.plans ≡ map (plan_at l.p) (range_with_len 0 l.n);
  small : All PlanIsSmall l.plans;
}
