use Rattle.std.proofs.Common.{◌≡◌, ◌-◌}
use Rattle.std.specs.List.{list_all, range_with_len}
use Rattle.sam_model.specs.Lists.{below}
use Rattle.sam_model.specs.Accepted.{stands}
use Rattle.sam_model.proofs.acceptance.all_stand.Given as goal

abbrev pub invariant-loop-v : goal.invariant-loop-v
invariant-loop-v l = list_all (stands l.left l.terms) (range_with_len l.v (l.count - l.v)) ≡ list_all (stands l.left l.terms) (below l.count)
