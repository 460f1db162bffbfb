use Rattle.std.proofs.Common.{subst}
use Rattle.stepper.specs.AtState.{Somewhere}
use Rattle.stepper.proofs.machine.Machine.stands.Goals as goal

pub returns : goal.returns
returns g c = subst (λ z. ∥ (Somewhere g.B.BlockStep z) ∥₁) c.self.view_is c.self.invariant
