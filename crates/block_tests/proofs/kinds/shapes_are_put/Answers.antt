use Rattle.block_core.proofs.WorkedFits.{dropvalue-fits, dropfiber-fits, fill-fits}
use Rattle.block_tests.proofs.kinds.shapes_are_put.Goals as goal

pub puts-requires : goal.puts-requires
puts-requires g c = c.new.ensures.starts _ dropvalue-fits

pub puts-requires-2 : goal.puts-requires-2
puts-requires-2 g c = c.new-2.ensures.starts _ dropfiber-fits

pub puts-requires-3 : goal.puts-requires-3
puts-requires-3 g c = c.new-3.ensures.starts _ fill-fits
