use Rattle.std.proofs.Common.{◌≡◌, take}
use Rattle.program_file.specs.Numbers.{names_of}
use Rattle.program_file.proofs.numbers.names_of.Given as goal

abbrev pub invariant-loop-v : goal.invariant-loop-v
invariant-loop-v l = l.names ≡ names_of (take l.v-index l.vars)
