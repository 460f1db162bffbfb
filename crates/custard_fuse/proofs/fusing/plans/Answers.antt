use Rattle.std.proofs.Common.{◌∙◌, sym, ap, [], ◌∷◌, ◌++◌, List, map}
use Rattle.std.specs.List.{range_with_len}
use Rattle.std.proofs.lemmas.List.Elements.{All-same, All-push}
use Rattle.label_rules.specs.declared.plans.Plan.{Plan}
use Rattle.label_rules.specs.Plans.{PlanIsSmall}
use Rattle.label_rules.specs.TermLabels.{plan_at}
use Rattle.custard_fuse.proofs.Counting.{plans_more}
use Rattle.custard_fuse.proofs.fusing.plans.Goals as goal

pub loop-n-preserved : goal.loop-n-preserved
loop-n-preserved c =
    let p = c.args.p.now in
    let n = c.loop-n.n in
    let plan = c.in_ok-term_plan.field-0 in
    let before = map (plan_at p) (range_with_len 0 n) in
    record {
      plans =
          c.in_ok-push.ensures.ok
          ∙ ap (λ (plans : List Plan). plans ++ plan ∷ []) c.loop-n.invariant.plans
          ∙ ap (λ (one : Plan). before ++ one ∷ []) c.in_ok-term_plan.ensures.plan
          ∙ sym (plans_more p n c.get.result.now c.get.ensures);
      small =
          All-same PlanIsSmall c.push.new.self (c.loop-n.plans ++ plan ∷ []) c.in_ok-push.ensures.ok
          (All-push PlanIsSmall c.loop-n.plans plan c.loop-n.invariant.small c.in_ok-term_plan.ensures.small);
    }
