use Rattle.std.proofs.Common.{arith}
use Rattle.program_file.proofs.numbers.number_of.Goals as goal

pub returns-then-place : goal.returns-then-place
returns-then-place c = omega (arith, c.place_of_tensor-place.ensures)

pub returns-else-place : goal.returns-else-place
returns-else-place c = omega (arith, c.place_of_tensor-place.ensures)
