use Rattle.std.specs.Prelude.{[], ◌∷◌}
use Rattle.label_rules.specs.TermLabels.{coordinate_labels}
use Rattle.graph_check.proofs.Ports.{two-ports}
use Rattle.graph_check.proofs.rules.LabelRules.are_nested.Goals as goal

pub returns : goal.returns
returns c =
    let p = c.args.self.now.program.now in
    rw (c.is_coordinate.ensures, c.is_only.ensures, c.at_port-outer.ensures, c.at_port-inner.ensures) (two-ports (coordinate_labels p c.args.t c.args.g c.args.d) (c.args.below ∷ []) c.args.ins.now)
