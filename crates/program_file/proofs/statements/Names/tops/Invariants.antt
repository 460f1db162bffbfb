use Rattle.std.proofs.Common.{◌≡◌, take}
use mathlib.Core.List.{map}
use Rattle.program_file.specs.Statements.{top_of}
use Rattle.program_file.proofs.statements.Names.tops.Given as goal

abbrev pub invariant-loop-top : goal.invariant-loop-top
invariant-loop-top l = l.tops ≡ map (top_of l.self.tensors.now l.self.variables.now l.left) (take l.top-index l.statement.tops)
