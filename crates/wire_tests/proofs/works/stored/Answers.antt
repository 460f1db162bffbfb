use Rattle.wire_tests.proofs.Scanning.{has-root}
use Rattle.wire_tests.proofs.works.stored.Goals as goal

pub returns-in-Ok-build : goal.returns-in-Ok-build
returns-in-Ok-build c = rw c.in-Ok-build.ensures.stored (has-root c.in_ok-t.t c.in-Ok.entries c.in_ok-t.ensures.order)
