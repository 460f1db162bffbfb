use Rattle.std.proofs.Common.{◌∙◌}
use Rattle.std.proofs.lemmas.Result.{IfOk-weaker}
use Rattle.any_block.proofs.gathering.kept_values.Goals as goal

pub returns-in-WriteValue : goal.returns-in-WriteValue
returns-in-WriteValue c = IfOk-weaker c.copy_of.result _ _ (λ vals e s k h. e ∙ c.vals.ensures.written s (rw c.in-WriteValue.is at h)) c.copy_of.ensures
