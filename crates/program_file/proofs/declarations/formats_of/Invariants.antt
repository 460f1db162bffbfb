use Rattle.std.proofs.Common.{◌≡◌, take}
use mathlib.Core.List.{map}
use Rattle.program_file.specs.Declarations.{format_of}
use Rattle.program_file.proofs.declarations.formats_of.Given as goal

abbrev pub invariant-loop-byte : goal.invariant-loop-byte
invariant-loop-byte l = l.formats ≡ map format_of (take l.byte-index l.letters)
