use Rattle.block_core.proofs.WorkedFits.{sub-fits, const-fits}
use Rattle.block_tests.proofs.kinds.values_are_put.Goals as goal

pub puts-requires : goal.puts-requires
puts-requires g c = c.new.ensures.starts _ sub-fits

pub puts-requires-2 : goal.puts-requires-2
puts-requires-2 g c = c.new-2.ensures.starts _ const-fits
