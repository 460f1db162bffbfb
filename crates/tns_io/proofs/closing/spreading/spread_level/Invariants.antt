use Rattle.std.proofs.Common.{◌≡◌, ◌++◌}
use Rattle.std.specs.List.{flat_map}
use Rattle.tns_io.specs.Closing.{longer_below}
use Rattle.tns_io.specs.Rows.{joined, rows_of}
use Rattle.tns_io.proofs.RowLemmas.{rows_left}
use Rattle.tns_io.proofs.closing.spreading.spread_level.Given as goal

abbrev pub invariant-loop-path : goal.invariant-loop-path
invariant-loop-path l =
    l.numbers.items ++ joined (flat_map (longer_below l.size) (rows_left l.long l.paths.count l.paths.numbers.items l.path))
    ≡ joined (flat_map (longer_below l.size) (rows_of l.long l.paths.count l.paths.numbers.items))
