use Rattle.label_rules.specs.TermLabels.{coordinate_labels, value_labels}
use Rattle.graph_check.proofs.Ports.{three-ports}
use Rattle.graph_check.proofs.rules.LabelRules.are_rows.Goals as goal

pub returns : goal.returns
returns c =
    let p = c.args.self.now.program.now in
    rw (c.is_coordinate-has_outer.ensures, c.is_coordinate-has_inner.ensures, c.is_value.ensures, c.at_port-outer.ensures, c.at_port-inner.ensures, c.at_port-values.ensures) (three-ports (coordinate_labels p c.args.t c.args.g c.args.d) (coordinate_labels p c.args.t c.args.g c.args.n) (value_labels p c.args.t c.args.g) c.args.ins.now)
