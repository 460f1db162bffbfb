use Rattle.std.proofs.Common.{ap, length, arith}
use Rattle.stepper.proofs.Stalling.{few_blocks}
use Rattle.stepper.proofs.machine.Machine.waiting.Goals as goal

pub waits-requires-clause-few : goal.waits-requires-clause-few
waits-requires-clause-few g c =
    let l = few_blocks g.B.BlockStep _ c.self.invariant in
    let e = ap (λ m. length m.blocks) c.self.view_is in
    omega (arith, l, e)
