use Rattle.std.proofs.Common.{◌+◌, ◌-◌}
use Rattle.graph_check.proofs.rules.LabelRules.+is_reduced_coordinate.Given as goal

abbrev pub decreases-is_reduced_coordinate : goal.decreases-is_reduced_coordinate
decreases-is_reduced_coordinate l = l.g + 1 - l.h
