-- The blocks stand at the start over the stored tensors.
use Rattle.machine_tests.proofs.threads.finished_on.Goals as goal

pub run_graph-requires-clause-own : goal.run_graph-requires-clause-own
run_graph-requires-clause-own g c κs within = (c.args.storages.now, c.requires.consistent, c.in_ok-blocks.ensures)
