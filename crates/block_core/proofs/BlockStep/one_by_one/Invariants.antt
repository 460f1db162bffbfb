use Rattle.std.proofs.Common.{◌≡◌}
use Rattle.block_core.specs.Bursts.{Poured, MayPour}
use Rattle.block_core.proofs.BlockStep.one_by_one.Given as goal

abbrev pub invariant-loop : goal.invariant-loop
invariant-loop g l = record {
  same_kind : g.Self.BlockStep.kind l.self ≡ g.Self.BlockStep.kind l.fn.self;
  same_refusal : g.Self.BlockStep.may_refuse l.self ≡ g.Self.BlockStep.may_refuse l.fn.self;
  same_ends : g.P.Ports.same l.fn.ports l.ports;
  poured : Poured g.Self.BlockStep.kind g.Self.BlockStep.stands g.P.Ports.fed g.P.Ports.did l.fn.self l.fn.ports l.self l.ports l.went;
  may : MayPour g.Self.BlockStep.kind g.Self.BlockStep.stands g.P.Ports.fed l.self l.ports;
}
