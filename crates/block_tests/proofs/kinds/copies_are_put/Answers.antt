use Rattle.block_core.proofs.WorkedFits.{root-fits, repeat-fits, cast-fits, drain-fits}
use Rattle.block_tests.proofs.kinds.copies_are_put.Goals as goal

pub puts-requires : goal.puts-requires
puts-requires g c = c.new.ensures.starts _ root-fits

pub puts-requires-2 : goal.puts-requires-2
puts-requires-2 g c = c.new-2.ensures.starts _ repeat-fits

pub puts-requires-3 : goal.puts-requires-3
puts-requires-3 g c = c.new-3.ensures.starts _ cast-fits

pub puts-requires-4 : goal.puts-requires-4
puts-requires-4 g c = c.new-4.ensures.starts _ drain-fits
