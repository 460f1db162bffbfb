use Rattle.std.proofs.Common.{◌≡◌, length, take}
use mathlib.Core.List.{map}
use Rattle.levels.specs.Keys.{key_entry}
use Rattle.levels.specs.Rows.{row_entry}
use Rattle.levels.proofs.rows.keyed_rows.Given as goal

abbrev pub invariant-loop-key : goal.invariant-loop-key
invariant-loop-key l = map (row_entry (length l.t.order)) l.rows.items ≡ map (key_entry l.t) (take l.key-index l.keys)
