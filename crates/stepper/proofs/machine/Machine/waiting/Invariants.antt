use Rattle.std.proofs.Common.{◌≡◌}
use Rattle.stepper.specs.AtState.{Wherever}
use Rattle.stepper.specs.Endings.{waiting_below}
use Rattle.stepper.proofs.machine.Machine.waiting.Given as goal

abbrev pub invariant-loop-block : goal.invariant-loop-block
invariant-loop-block g l =
    Wherever g.B.BlockStep l.self (λ net rooms s. l.list ≡ waiting_below net s l.block)
