use Rattle.std.proofs.Common.{◌+◌, ◌-◌}
use Rattle.graph_check.proofs.rules.LabelRules.+is_pruned_from.Given as goal

abbrev pub decreases-is_pruned_from : goal.decreases-is_pruned_from
decreases-is_pruned_from l = l.d + 1 - l.f
