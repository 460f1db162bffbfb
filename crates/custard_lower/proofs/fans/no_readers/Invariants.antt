use Rattle.std.proofs.Common.{◌≡◌, [], map}
use Rattle.std.specs.List.{range_with_len}
use Rattle.custard_lower.proofs.fans.no_readers.Given as goal

abbrev pub invariant-loop : goal.invariant-loop
invariant-loop l = l.readers.items ≡ map (λ _. []) (range_with_len 0 l.counter)
