use Rattle.std.proofs.Common.{◌≡◌, ◌++◌, drop}
use Rattle.label_rules.specs.Plans.{accesses_of}
use Rattle.label_rules.proofs.plans.accesses.Given as goal

abbrev pub invariant-loop-factor : goal.invariant-loop-factor
invariant-loop-factor l = l.found ++ accesses_of l.loops (drop l.factor-index l.factors) ≡ accesses_of l.loops l.factors
