use Rattle.std.proofs.Common.{◌≡◌, take}
use mathlib.Core.List.{map}
use Rattle.label_rules.specs.Holding.{label_on}
use Rattle.graph_check.proofs.labels.labels_at.Given as goal

abbrev pub invariant-loop-channel : goal.invariant-loop-channel
invariant-loop-channel l = l.labels ≡ map (label_on l.g) (take l.channel-index l.ports)
