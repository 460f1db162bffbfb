use Rattle.label_rules.proofs.term.SmallPlans.{small-plan, plan-levels}
use Rattle.label_rules.proofs.plans.term_plan.Goals as goal

pub returns-clause-small : goal.returns-clause-small
returns-clause-small c =
    rw c.in_ok-plan.ensures (small-plan c.args.p.now c.args.first c.args.t.now c.requires.accepted c.requires.fits)

pub returns-clause-levels : goal.returns-clause-levels
returns-clause-levels c =
    rw c.in_ok-plan.ensures (plan-levels c.args.p.now c.args.first c.args.t.now c.requires.accepted c.requires.fits)
