use Rattle.ruled_wires.proofs.ends.wire_for.Goals as goal
use Rattle.std.proofs.Common.{sym, subst, false}
use Rattle.crossbeam_channel.specs.Fifo.{Forks}
use Rattle.ruled_wires.specs.declared.known.Known.{Known}
use Rattle.ruled_wires.specs.Rule.{Wire, sender_view, receiver_view}
use Rattle.ruled_wires.proofs.Keeping.{begins, forks}

pub bounded_with-requires-clause-rule : goal.bounded_with-requires-clause-rule
bounded_with-requires-clause-rule g c = begins

pub another-theirs-requires-clause-rule : goal.another-theirs-requires-clause-rule
another-theirs-requires-clause-rule g c =
    subst (λ (v : Known). Forks Wire c.in_ok-sender.mine.id v (sender_view g.C.Chosen.stream g.C.Chosen.capacity 0 0 false) (receiver_view g.C.Chosen.stream g.C.Chosen.capacity 0 false))
    (sym c.in_ok-sender.ensures.3) (forks c.in_ok-sender.mine.id g.C.Chosen.stream g.C.Chosen.capacity)
