use Rattle.std.specs.Prelude.{eqb}
use Rattle.std.proofs.Common.{sym, ◌∙◌, ap}
use Rattle.std.proofs.lemmas.Option.{get_or_from_slice_get}
use Rattle.label_rules.specs.Plans.{plan_of}
use Rattle.label_rules.specs.TermLabels.{empty_term}
use Rattle.graph_check.proofs.EachPlan.{plan-more}
use Rattle.graph_check.proofs.plans.plans.Goals as goal

pub loop-t-preserved : goal.loop-t-preserved
loop-t-preserved c =
    let p = c.args.p.now in
    let t = c.loop-t.t in
    let read = get_or_from_slice_get p.terms t c.get.result.now empty_term c.get.ensures in
    plan-more p t c.loop-t.plans c.push.new.self c.in_ok-plan.plan c.loop-t.invariant
    (c.in_ok-plan.ensures.plan ∙ ap (plan_of p (eqb t 0)) (sym read)) c.in_ok-push.ensures.ok
