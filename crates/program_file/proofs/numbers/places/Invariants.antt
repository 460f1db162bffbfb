use Rattle.std.proofs.Common.{◌≡◌, take}
use Rattle.program_file.specs.Numbers.{places}
use Rattle.program_file.proofs.numbers.places.Given as goal

abbrev pub invariant-loop-name : goal.invariant-loop-name
invariant-loop-name l = l.found ≡ places l.names (take l.name-index l.vars)
