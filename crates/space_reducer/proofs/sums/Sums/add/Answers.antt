use Rattle.std.proofs.Common.{◌∙◌}
use Rattle.std.proofs.lemmas.Result.{IfOk-weaker}
use Rattle.space_reducer.proofs.Added.{inserted-adds}
use Rattle.space_reducer.proofs.sums.Sums.add.Goals as goal

pub returns-clause-ok : goal.returns-clause-ok
returns-clause-ok c =
    let added = inserted-adds c.args.coordinate c.args.value _ _ c.add_into.ensures.was_ordered c.self.view_is in
    IfOk-weaker c.add_into.result _ _ (λ u e. e ∙ added) c.add_into.ensures.ok
