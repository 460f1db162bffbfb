use Rattle.std.proofs.Common.{sym, ◌∙◌, ap}
use Rattle.custard_lower.specs.Nests.{Meeting}
use Rattle.custard_lower.proofs.term.Meeting.{met_ends, met_factors}
use Rattle.custard_lower.proofs.plans.NumberedPlan.meet_others.Goals as goal

pub returns-clause-made : goal.returns-clause-made
returns-clause-made c =
    ap (λ (all : Meeting). all.made)
    (sym (met_ends c.args.self.now.trees c.args.self.now.plan.now c.args.d c.loop-f.made c.loop-f.met c.loop-f.next
    c.args.factors.now c.loop-f.f-index c.loop-f-test.false) ∙ c.loop-f.invariant.all)

pub returns-clause-met : goal.returns-clause-met
returns-clause-met c =
    ap (λ (all : Meeting). all.met)
    (sym (met_ends c.args.self.now.trees c.args.self.now.plan.now c.args.d c.loop-f.made c.loop-f.met c.loop-f.next
    c.args.factors.now c.loop-f.f-index c.loop-f-test.false) ∙ c.loop-f.invariant.all)

pub returns-clause-factors : goal.returns-clause-factors
returns-clause-factors c =
    met_factors c.args.self.now.trees c.args.self.now.plan.now c.args.d c.args.made.now c.loop-f.made c.args.met c.loop-f.met
    c.args.w c.loop-f.next c.args.factors.now c.loop-f.f-index c.loop-f-test.false c.loop-f.invariant.all
