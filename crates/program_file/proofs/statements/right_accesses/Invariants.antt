use Rattle.std.proofs.Common.{◌≡◌, take}
use Rattle.std.specs.List.{flat_map}
use mathlib.Core.List.{map}
use Rattle.program_file.specs.Statements.{top_accesses}
use Rattle.program_file.proofs.statements.right_accesses.Given as goal

abbrev pub invariant-loop-top : goal.invariant-loop-top
invariant-loop-top l = map (λ a. a.now) l.accesses.items ≡ flat_map top_accesses (take l.top-index l.statement.tops)
