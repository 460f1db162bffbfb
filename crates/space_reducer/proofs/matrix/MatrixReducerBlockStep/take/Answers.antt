use Rattle.std.proofs.lemmas.Result.{IfOk-weaker}
use Rattle.block_core.proofs.Standing.{stands-take}
use Rattle.space_reducer.specs.MatrixSteps.{matrix_steps}
use Rattle.space_reducer.proofs.matrix.MatrixReducerBlockStep.take.Goals as goal

pub returns-clause-moved : goal.returns-clause-moved
returns-clause-moved c = IfOk-weaker c.took.result _ _ (λ u e s n h at. stands-take matrix_steps _ _ _ s n _ _ e at h) c.took.ensures.ok
