use Rattle.std.proofs.Common.{◌≡◌, drop}
use Rattle.sam_model.specs.Accepted.{distinct_tensors}
use Rattle.sam_model.proofs.acceptance.distinct_tensors.Given as goal

abbrev pub invariant-loop-i : goal.invariant-loop-i
invariant-loop-i l = distinct_tensors (drop l.i l.tensors) ≡ distinct_tensors l.tensors
