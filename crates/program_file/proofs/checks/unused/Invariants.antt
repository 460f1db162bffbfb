use Rattle.std.proofs.Common.{◌≡◌, drop}
use mathlib.Core.List.{map}
use Rattle.program_file.specs.Checks.{unused}
use Rattle.program_file.proofs.checks.unused.Given as goal

abbrev pub invariant-loop-sum : goal.invariant-loop-sum
invariant-loop-sum l = unused l.vars (map (λ v. v.now) (drop l.sum-index l.sums)) ≡ unused l.vars (map (λ v. v.now) l.sums)
