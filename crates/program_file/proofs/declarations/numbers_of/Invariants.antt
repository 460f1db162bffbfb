use Rattle.std.proofs.Common.{◌≡◌, ◌++◌, length}
use Rattle.program_file.specs.Declarations.{are_decimals, numbers}
use Rattle.program_file.proofs.declarations.numbers_of.Given as goal

abbrev pub invariant-loop-number : goal.invariant-loop-number
invariant-loop-number l = record { so_far : l.found ++ numbers l.byte l.rest ≡ numbers l.byte l.word; decimals : are_decimals l.byte l.rest ≡ are_decimals l.byte l.word }

abbrev pub decreases-loop-number : goal.decreases-loop-number
decreases-loop-number l = length l.rest
