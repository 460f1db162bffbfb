use Rattle.std.proofs.Common.{sym, ◌∙◌, arith}
use Rattle.sam_model.specs.Accepted.{stands}
use Rattle.sam_model.proofs.AcceptedLemmas.{all-more}
use Rattle.sam_model.proofs.acceptance.all_stand.Goals as goal

pub loop-v-preserved : goal.loop-v-preserved
loop-v-preserved c = all-more (stands c.args.left.now c.args.terms.now) c.loop-v.v c.args.count (omega arith) (sym c.stands.ensures ∙ c.if-not-stands.false) ∙ c.loop-v.invariant
