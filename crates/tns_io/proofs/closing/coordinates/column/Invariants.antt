use Rattle.std.proofs.Common.{◌≡◌}
use Rattle.tns_io.specs.Coordinates.{column}
use Rattle.tns_io.proofs.closing.coordinates.column.Given as goal

abbrev pub invariant-loop-row : goal.invariant-loop-row
invariant-loop-row l = l.coordinates ≡ column l.levels l.rows l.row l.level
