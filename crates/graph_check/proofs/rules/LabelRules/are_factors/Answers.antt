use Rattle.std.specs.Prelude.{[], ◌∷◌}
use Rattle.label_rules.specs.TermLabels.{partial_labels}
use Rattle.graph_check.proofs.Ports.{two-ports-at}
use Rattle.graph_check.proofs.rules.LabelRules.are_factors.Goals as goal

pub returns : goal.returns
returns c =
    let p = c.args.self.now.program.now in
    rw (c.is_partial.ensures, c.is_only.ensures)
    (two-ports-at (partial_labels p c.args.t c.args.k) (c.args.other ∷ []) c.args.ins.now c.at_port-values.result c.at_port-factor.result
    c.at_port-values.ensures c.at_port-factor.ensures)
