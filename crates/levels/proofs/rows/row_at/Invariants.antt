use Rattle.std.proofs.Common.{◌≡◌, ℕ, ◌+◌, ◌<◌, length}
use Rattle.std.specs.Prelude.{slice_index}
use Rattle.levels.proofs.rows.row_at.Given as goal

abbrev pub invariant-loop-level : goal.invariant-loop-level
invariant-loop-level l = record {
  long : length l.coordinates ≡ 8;
  same : (j : ℕ) → j < l.level → slice_index l.coordinates j ≡ slice_index l.coords (l.from + slice_index l.t.order j);
}
