use Rattle.std.proofs.Common.{◌≡◌, ℕ, ◌<◌, false, get_or}
use Rattle.plays.specs.Net.{can}
use Rattle.stepper.specs.AtState.{Wherever}
use Rattle.stepper.proofs.machine.Machine.press.Given as goal

abbrev pub invariant-loop-n : goal.invariant-loop-n
invariant-loop-n g l =
    (l.self ≡ l.fn.self)
    × (g.T.Tap.told l.tap ≡ g.T.Tap.told l.fn.tap)
    × ((k : ℕ) → k < l.n → Wherever g.B.BlockStep l.fn.self (λ net rooms s. can net rooms s (get_or l.fn.self.routes.order k 0) ≡ false))
