use Rattle.std.proofs.Common.{◌≡◌}
use Rattle.sam_model.specs.Lists.{below}
use Rattle.tns_io.proofs.closing.coordinates.single_ends.Given as goal

abbrev pub invariant-loop-end : goal.invariant-loop-end
invariant-loop-end l = l.ends ≡ below l.end
