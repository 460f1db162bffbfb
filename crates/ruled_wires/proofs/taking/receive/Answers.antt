use Rattle.std.proofs.Common.{ap, ◌∙◌}
use Rattle.ruled_wires.specs.declared.known.Known.{Known}
use Rattle.ruled_wires.specs.Passes.{known}
use Rattle.ruled_wires.proofs.Keeping.{receives-next}
use Rattle.ruled_wires.proofs.taking.receive.Goals as goal

pub recv_as-requires-clause-rule : goal.recv_as-requires-clause-rule
recv_as-requires-clause-rule g c =
    let i = c.loop.invariant in (
      receives-next c.loop.pass.id (known c.loop.pass) (ap (λ (u : Known). u.takes) i.view ∙ c.requires.takes),
      λ items views h at. tt,
    )
