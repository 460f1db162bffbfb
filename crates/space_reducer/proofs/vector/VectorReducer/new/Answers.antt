use Rattle.std.proofs.Common.{◌∙◌}
use Rattle.space_reducer.proofs.VectorRuns.{vector-starts}
use Rattle.space_reducer.proofs.vector.VectorReducer.new.Goals as goal

pub returns-clause-starts : goal.returns-clause-starts
returns-clause-starts c = vector-starts _ _ c.new.ensures (c.into_pairs.ensures ∙ c.new-2.ensures)
