use Rattle.std.proofs.Common.{◌≡◌, ℕ, ◌<◌, length, drop}
use Rattle.std.specs.Prelude.{slice_index}
use Rattle.sam_model.specs.Lists.{items_at}
use Rattle.levels.specs.Keys.{weight, digits}
use Rattle.levels.proofs.rows.keyed_row.Given as goal

-- the digits so far stand, and those of the rest are the others
abbrev pub invariant-loop-level : goal.invariant-loop-level
invariant-loop-level l = record {
  long : length l.coordinates ≡ 8;
  small : l.rest < weight (drop l.level (items_at l.t.dims l.t.order));
  others : drop l.level (digits (items_at l.t.dims l.t.order) l.key.number) ≡ digits (drop l.level (items_at l.t.dims l.t.order)) l.rest;
  same : (j : ℕ) → j < l.level → slice_index l.coordinates j ≡ slice_index (digits (items_at l.t.dims l.t.order) l.key.number) j;
}
