use Rattle.block_core.proofs.WorkedFits.{sumscalar-root-fits, sumvector-fits, summatrix-fits}
use Rattle.block_tests.proofs.kinds.sums_are_put.Goals as goal

pub puts-requires : goal.puts-requires
puts-requires g c = c.new.ensures.starts _ sumscalar-root-fits

pub puts-requires-2 : goal.puts-requires-2
puts-requires-2 g c = c.new-2.ensures.starts _ sumvector-fits

pub puts-requires-3 : goal.puts-requires-3
puts-requires-3 g c = c.new-3.ensures.starts _ summatrix-fits
