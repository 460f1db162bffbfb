use Rattle.std.proofs.Common.{◌≡◌}
use Rattle.std.specs.List.{range_with_len}
use mathlib.Core.List.{map}
use Rattle.label_rules.specs.TermLabels.{plan_at}
use Rattle.graph_check.proofs.plans.plans.Given as goal

abbrev pub invariant-loop-t : goal.invariant-loop-t
invariant-loop-t l = l.plans ≡ map (plan_at l.p) (range_with_len 0 l.t)
