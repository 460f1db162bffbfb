use Rattle.std.proofs.Common.{◌≡◌, ◌*◌, ◌%◌, ◌^◌, drop}
use Rattle.stream_model.specs.Terms.{literals_of}
use Rattle.label_rules.proofs.plans.times_literals.Given as goal

abbrev pub invariant-loop-factor : goal.invariant-loop-factor
invariant-loop-factor l =
    (l.product * literals_of (drop l.factor-index l.factors)) % 2 ^ 64 ≡ (l.fn.sign * literals_of l.fn.factors) % 2 ^ 64
