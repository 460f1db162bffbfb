use Rattle.std.proofs.Common.{◌∙◌}
use Rattle.graph_check.proofs.SameLabels.{same-just}
use Rattle.graph_check.proofs.names.are_just.Goals as goal

pub returns : goal.returns
returns c = c.are_same.ensures ∙ same-just c.args.labels.now c.args.these.now
