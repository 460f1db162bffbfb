use Rattle.std.proofs.Common.{◌≡◌, length}
use mathlib.Core.List.{map}
use Rattle.sam_model.specs.Lists.{below}
use Rattle.tns_io.specs.Coordinates.{column, level_ends}
use Rattle.tns_io.proofs.closing.coordinates.in_coordinates.Given as goal

abbrev pub invariant-loop-level : goal.invariant-loop-level
invariant-loop-level l = record {
  segs : l.segs ≡ map (λ level. level_ends level (length l.vals)) (below l.level);
  crds : l.crds ≡ map (column l.levels l.rows (length l.vals)) (below l.level);
}
