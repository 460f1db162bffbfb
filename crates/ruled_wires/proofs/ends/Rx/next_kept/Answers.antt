use Rattle.std.proofs.Common.{◌≡◌, ◌<◌, length, arith, sym, subst}
use Rattle.std.specs.Prelude.{Some, slice_get}
use Rattle.crossbeam_channel.specs.Ends.{receives_on, ruled_capacity}
use Rattle.ruled_wires.specs.Ends.{End, wire_stream}
use Rattle.ruled_wires.specs.Passes.{known}
use Rattle.ruled_wires.proofs.Takes.{takes-one}
use Rattle.ruled_wires.proofs.ends.Rx.next_kept.Goals as goal

pub invariant_of-self : goal.invariant_of-self
invariant_of-self g c =
    let i = c.self.invariant in
    let t = c.self.inside in
    let some = subst (λ (e : End). 0 < e.kept) (sym c.self.view_is) c.requires in
    let less : t.place < length t.packet.items = omega (arith, some) in (
      i.0,
      (takes-one (wire_stream g.W.Streams.streams t.channel) (ruled_capacity (receives_on t.receiver)) t.packet.items t.place t.ended (known t.pass) i.1
          less c.index.result.now (sym c.index.ensures) c.ended_by-self-inside.result c.ended_by-self-inside.ensures).1,
    )

pub returns-clause-next : goal.returns-clause-next
returns-clause-next g c =
    let i = c.self.invariant in
    let t = c.self.inside in
    let some = subst (λ (e : End). 0 < e.kept) (sym c.self.view_is) c.requires in
    let less : t.place < length t.packet.items = omega (arith, some) in
    let next = (takes-one (wire_stream g.W.Streams.streams t.channel) (ruled_capacity (receives_on t.receiver)) t.packet.items t.place t.ended (known t.pass) i.1
    less c.index.result.now (sym c.index.ensures) c.ended_by-self-inside.result c.ended_by-self-inside.ensures).0 in
    subst (λ (e : End). slice_get (wire_stream g.W.Streams.streams e.channel) e.count ≡ Some c.index.result.now) c.self.view_is next
