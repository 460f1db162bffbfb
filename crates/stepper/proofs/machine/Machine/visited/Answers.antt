use Rattle.std.proofs.Common.{◌<◌, ap, length, arith}
use Rattle.std.proofs.Math.Logic.{∥∥₁_elim}
use Rattle.std.specs.Coded.{le_prop}
use Rattle.std.proofs.lemmas.List.Elements.{All-get_or}
use Rattle.stepper.proofs.machine.Machine.visited.Goals as goal

pub returns-clause-within : goal.returns-clause-within
returns-clause-within g c = ∥∥₁_elim c.self.invariant le_prop (λ r.
    let n = ap (λ m. length m.routes.order) c.self.view_is in
    let l : c.args.n < length c.self.inside.plan.order.items = omega (arith, n, c.requires) in
    let b = All-get_or (λ b. b < length r.1.blocks) c.self.inside.plan.order.items c.args.n c.index.result.now l r.4.routed.order.blocks in
    let k = ap (λ m. length m.blocks) c.self.view_is in
    omega (arith, b, c.index.ensures, r.4.standing.number, k))
