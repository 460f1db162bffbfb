use Rattle.std.proofs.Common.{◌∙◌}
use Rattle.sam_model.specs.Accepted.{access_fits}
use Rattle.sam_model.proofs.AcceptedLemmas.{passes-at, passes-past}
use Rattle.sam_model.proofs.acceptance.numbered_fits.Goals as goal

pub returns-then-number-tensors : goal.returns-then-number-tensors
returns-then-number-tensors c = c.access_fits.ensures ∙ passes-at (access_fits c.args.sizes.now c.args.vars.now) c.args.tensors.now c.args.number c.index-tensors-number.result c.if-number-tensors.true c.index-tensors-number.is

pub returns-else-number-tensors : goal.returns-else-number-tensors
returns-else-number-tensors c = passes-past (access_fits c.args.sizes.now c.args.vars.now) c.args.tensors.now c.args.number c.if-number-tensors.false
