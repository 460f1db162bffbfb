use Rattle.wire_tests.specs.Putting.{HasPut}
use Rattle.wire_tests.proofs.packets.put_all.Given as goal

abbrev pub invariant-loop-t : goal.invariant-loop-t
invariant-loop-t g l = HasPut l.outs l.t-index
