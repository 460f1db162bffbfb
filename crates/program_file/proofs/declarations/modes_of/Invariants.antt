use Rattle.std.proofs.Common.{◌≡◌, take}
use Rattle.program_file.specs.Declarations.{zero_based}
use Rattle.program_file.proofs.declarations.modes_of.Given as goal

abbrev pub invariant-loop-number : goal.invariant-loop-number
invariant-loop-number l = l.order ≡ zero_based (take l.number-index l.numbers)
