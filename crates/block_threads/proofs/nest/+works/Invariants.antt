use Rattle.std.proofs.Common.{◌+◌, ◌*◌, length}
use Rattle.block_threads.proofs.nest.+works.Given as goal

abbrev pub decreases-run_both-join+arg2 : goal.decreases-run_both-join+arg2
decreases-run_both-join+arg2 g l = 3 * length l.rest.now + 1

abbrev pub decreases-run_both : goal.decreases-run_both
decreases-run_both g l = 3 * length l.rest.now + 2

abbrev pub decreases-run_all : goal.decreases-run_all
decreases-run_all g l = 3 * length l.order.now
