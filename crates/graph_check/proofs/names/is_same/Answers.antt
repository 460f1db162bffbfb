use Rattle.std.proofs.Common.{◌∙◌}
use Rattle.graph_check.proofs.SameLabels.{label-same}
use Rattle.graph_check.proofs.names.is_same.Goals as goal

pub returns : goal.returns
returns c = c.eq.ensures ∙ label-same c.args.label c.args.other
