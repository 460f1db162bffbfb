use Rattle.label_rules.specs.TermLabels.{coordinate_labels, value_labels}
use Rattle.graph_check.proofs.Ports.{two-ports}
use Rattle.graph_check.proofs.rules.LabelRules.are_summed.Goals as goal

pub returns : goal.returns
returns c =
    let p = c.args.self.now.program.now in
    rw (c.is_coordinate.ensures, c.is_value.ensures, c.at_port-inner.ensures, c.at_port-values.ensures) (two-ports (coordinate_labels p c.args.t c.args.g c.args.d) (value_labels p c.args.t c.args.g) c.args.ins.now)
