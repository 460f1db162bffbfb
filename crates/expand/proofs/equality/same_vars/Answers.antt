use Rattle.std.proofs.Common.{◌∙◌}
use Rattle.expand.proofs.Equal.{pointwise-same}
use Rattle.expand.proofs.equality.same_vars.Goals as goal

pub returns : goal.returns
returns c = c.eq.ensures ∙ pointwise-same c.args.a.now c.args.b.now
