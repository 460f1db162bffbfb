use Rattle.std.proofs.Common.{◌≡◌, take}
use Rattle.std.specs.List.{flat_map}
use mathlib.Core.List.{map}
use Rattle.program_file.specs.Statements.{tree_sums}
use Rattle.program_file.proofs.statements.right_sums.Given as goal

abbrev pub invariant-loop-top : goal.invariant-loop-top
invariant-loop-top l = map (λ v. v.now) l.sums.items ≡ flat_map (λ t. tree_sums t.body) (take l.top-index l.statement.tops)
