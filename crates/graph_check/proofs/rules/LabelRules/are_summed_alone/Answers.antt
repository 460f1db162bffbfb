use Rattle.std.specs.Prelude.{◌-◌, [], ◌∷◌, cond, eqb}
use Rattle.label_rules.specs.Labels.{no_label}
use Rattle.label_rules.specs.TermLabels.{coordinate_labels, value_labels}
use Rattle.graph_check.proofs.Ports.{two-ports}
use Rattle.graph_check.proofs.rules.LabelRules.are_summed_alone.Goals as goal

pub returns : goal.returns
returns c =
    let p = c.args.self.now.program.now in
    rw (c.is_outer.ensures, c.is_value.ensures, c.at_port-outer.ensures, c.at_port-values.ensures) (two-ports (cond (eqb c.args.n 1) (no_label ∷ []) (coordinate_labels p c.args.t c.args.g (c.args.n - 1))) (value_labels p c.args.t c.args.g) c.args.ins.now)
