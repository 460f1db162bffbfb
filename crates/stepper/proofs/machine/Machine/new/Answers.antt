use Rattle.std.proofs.Common.{refl}
use Rattle.std.proofs.Math.Logic.{∥∥₁_map}
use Rattle.plays.specs.Net.{start}
use Rattle.stepper.proofs.Laying.{starts_at}
use Rattle.stepper.proofs.machine.Machine.new.Goals as goal

pub returns-clause-starts : goal.returns-clause-starts
returns-clause-starts g c = λ storages k own.
    starts_at g.B.BlockStep storages c.args.g.now c.args.caps.now.each _ c.requires.formed k own c.requires.capacities.0
    c.in_ok-queues.ensures.number c.in_ok-queues.ensures.empty refl c.in_ok-plan.ensures

pub invariant_of-result : goal.invariant_of-result
invariant_of-result g c = ∥∥₁_map c.requires.own (λ r. (
  r.0,
  c.args.g.now,
  c.args.caps.now.each,
  start,
  starts_at g.B.BlockStep r.0 c.args.g.now c.args.caps.now.each _ c.requires.formed r.1 r.2 c.requires.capacities.0
      c.in_ok-queues.ensures.number c.in_ok-queues.ensures.empty refl c.in_ok-plan.ensures,
))
