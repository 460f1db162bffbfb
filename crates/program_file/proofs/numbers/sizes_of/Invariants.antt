use Rattle.std.proofs.Common.{◌≡◌, take}
use mathlib.Core.List.{map}
use Rattle.program_file.specs.Numbers.{size_of}
use Rattle.program_file.proofs.numbers.sizes_of.Given as goal

abbrev pub invariant-loop-name : goal.invariant-loop-name
invariant-loop-name l = l.sizes ≡ map (size_of l.vars) (take l.name-index l.names)
