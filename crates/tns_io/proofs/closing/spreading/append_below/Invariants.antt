use Rattle.std.proofs.Common.{◌≡◌, ◌++◌}
use Rattle.tns_io.specs.Closing.{longer_below}
use Rattle.tns_io.specs.Rows.{joined}
use Rattle.tns_io.proofs.closing.spreading.append_below.Given as goal

abbrev pub invariant-loop-coordinate : goal.invariant-loop-coordinate
invariant-loop-coordinate l = l.numbers.items ≡ l.fn.numbers.items ++ joined (longer_below l.coordinate l.path)
