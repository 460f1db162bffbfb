use Rattle.std.proofs.Common.{◌≡◌, ℕ, [], length, get_or}
use Rattle.stepper.proofs.tap.KeepAll.new.Given as goal

abbrev pub invariant-loop : goal.invariant-loop
invariant-loop l = (length l.streams.items ≡ l.counter) × ((c : ℕ) → get_or l.streams.items c [] ≡ [])
