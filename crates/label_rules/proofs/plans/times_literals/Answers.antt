use Rattle.std.proofs.Common.{◌∙◌, arith}
use Rattle.std.proofs.lemmas.Grind.{common_steps}
use Rattle.label_rules.proofs.term.Literals.{literal-moved}
use Rattle.label_rules.proofs.plans.times_literals.Goals as goal
use Rattle.label_rules.proofs.plans.times_literals.Goals.{in-Literal, in_default}

pub loop-factor-preserved : goal.loop-factor-preserved
loop-factor-preserved c =
    elim c.match-factor.branch [
      | in-Literal w ↦
          rw w.product-is
          (literal-moved c.loop-factor.product c.args.factors.now c.loop-factor.factor-index c.factor-item.result w.in-Literal.n
          c.loop-factor-test.true c.factor-item.is w.in-Literal.is
          ∙ c.loop-factor.invariant)
      | in_default w ↦ let h = w.in_default in grind (arith, common_steps)
    ]
