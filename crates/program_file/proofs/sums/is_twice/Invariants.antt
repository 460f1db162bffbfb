use Rattle.std.proofs.Common.{◌≡◌, cond, drop}
use Rattle.sam_model.specs.Lists.{is_in}
use Rattle.program_file.specs.Checks.{is_twice}
use Rattle.program_file.proofs.sums.is_twice.Given as goal

abbrev pub invariant-loop-other : goal.invariant-loop-other
invariant-loop-other l =
    cond l.stood (is_in l.number (drop l.other-index l.numbers)) (is_twice l.number (drop l.other-index l.numbers)) ≡ is_twice l.number l.numbers
