use Rattle.std.proofs.Common.{◌≡◌}
use Rattle.large.proofs.StoringLemmas.{stored_until}
use Rattle.large.proofs.storing.storages.Given as goal

abbrev pub invariant-loop-k : goal.invariant-loop-k
invariant-loop-k l = l.storages ≡ stored_until l.tensors l.entries l.k
