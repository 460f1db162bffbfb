-- The blocks stand at the start over the stored tensors.
use Rattle.machine_tests.proofs.stepping.finishes_on.Goals as goal

pub new-requires-clause-own : goal.new-requires-clause-own
new-requires-clause-own c = ∣ (c.args.storages.now, c.requires.consistent, c.in_ok-blocks.ensures) ∣₁
