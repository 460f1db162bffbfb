use Rattle.std.proofs.Common.{length, take}
use mathlib.Core.List.{map}
use Rattle.std.specs.List.Sorted.{IsPermutation}
use Rattle.sam_model.specs.Tensors.{stored_as}
use Rattle.levels.specs.Rows.{row_entry}
use Rattle.levels.proofs.rows.settled_rows.Given as goal

abbrev pub invariant-loop-n : goal.invariant-loop-n
invariant-loop-n l = IsPermutation (take l.n (stored_as l.t l.entries).entries) (map (row_entry (length l.t.order)) l.rows.items)
