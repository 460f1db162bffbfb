use Rattle.std.specs.Prelude.{Bool, List}
use Rattle.std.proofs.Common.{◌∙◌, ap}
use Rattle.label_rules.specs.declared.plans.Plan.{Plan}
use Rattle.graph_check.proofs.Kept.{same_from}
use Rattle.graph_check.proofs.rules.LabelRules.keeps_same.Goals as goal

pub returns : goal.returns
returns c =
    let p = c.args.self.now.program.now in
    c.same_kept.ensures p c.args.t 0
    ∙ ap (λ (marks : List Bool). same_from p c.args.t c.args.d c.args.g c.args.h 0 marks)
    (c.as_slice.ensures ∙ ap (λ (plan : Plan). plan.on_left) c.plan.ensures.is)
