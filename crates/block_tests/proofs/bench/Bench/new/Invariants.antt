use Rattle.std.proofs.Common.{◌≡◌, [], take}
use mathlib.Core.List.{map}
use Rattle.block_tests.proofs.bench.Bench.new.Given as goal

abbrev pub invariant-loop : goal.invariant-loop
invariant-loop l = l.bench.feeds.items ≡ []

abbrev pub invariant-loop-tokens : goal.invariant-loop-tokens
invariant-loop-tokens l = l.bench.feeds.items ≡ map (λ s. s.now) (take l.tokens-index l.ins)
