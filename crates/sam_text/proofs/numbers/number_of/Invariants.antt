use Rattle.std.proofs.Common.{◌≡◌, take}
use Rattle.sam_text.specs.Numbers.{decimal}
use Rattle.sam_text.proofs.numbers.number_of.Given as goal

abbrev pub invariant-loop-byte : goal.invariant-loop-byte
invariant-loop-byte l = l.number ≡ decimal (take l.byte-index l.digits)
