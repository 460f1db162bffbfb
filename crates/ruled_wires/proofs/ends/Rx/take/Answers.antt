use Rattle.std.proofs.Common.{ℕ, ◌-◌, true≢false, length, sym, subst, ap}
use Rattle.crossbeam_channel.specs.Ends.{receives_on, ruled_capacity}
use Rattle.ruled_wires.specs.Ends.{End, wire_stream}
use Rattle.ruled_wires.specs.Rule.{IsNext}
use Rattle.ruled_wires.specs.Passes.{known}
use Rattle.ruled_wires.proofs.Takes.{receives}
use Rattle.ruled_wires.proofs.ends.Rx.take.Goals as goal

pub invariant_of-self : goal.invariant_of-self
invariant_of-self g c =
    let t = c.self.inside in
    let r = receives (wire_stream g.W.Streams.streams t.channel) (ruled_capacity (receives_on t.receiver)) t.packet.items t.place t.ended (known t.pass) c.self.invariant.1
    c.args.self.now t.channel c.self.view_is (λ full. true≢false (sym (c.if-ready.ensures.1 full))) c.receive-message.result c.receive-message.ensures.next
    c.first_of-s.result c.first_of-s.new.packet.items c.first_of-s.new.place c.first_of-s.ensures.within c.first_of-s.ensures.token c.first_of-s.ensures.lost
    (known c.receive-message.new.pass) c.receive-message.ensures.received c.ended_by-self-inside.result c.ended_by-self-inside.ensures in
    (c.receive-message.ensures.seat, r.1)

pub returns-clause-next : goal.returns-clause-next
returns-clause-next g c =
    let t = c.self.inside in
    let r = receives (wire_stream g.W.Streams.streams t.channel) (ruled_capacity (receives_on t.receiver)) t.packet.items t.place t.ended (known t.pass) c.self.invariant.1
    c.args.self.now t.channel c.self.view_is (λ full. true≢false (sym (c.if-ready.ensures.1 full))) c.receive-message.result c.receive-message.ensures.next
    c.first_of-s.result c.first_of-s.new.packet.items c.first_of-s.new.place c.first_of-s.ensures.within c.first_of-s.ensures.token c.first_of-s.ensures.lost
    (known c.receive-message.new.pass) c.receive-message.ensures.received c.ended_by-self-inside.result c.ended_by-self-inside.ensures in
    let channel = ap (λ (e : End). e.channel) c.self.view_is in
    subst (λ (k : ℕ). IsNext (wire_stream g.W.Streams.streams k) c.args.self.now.count c.first_of-s.result) channel r.0

pub returns-clause-taken : goal.returns-clause-taken
returns-clause-taken g c =
    let t = c.self.inside in
    let r = receives (wire_stream g.W.Streams.streams t.channel) (ruled_capacity (receives_on t.receiver)) t.packet.items t.place t.ended (known t.pass) c.self.invariant.1
    c.args.self.now t.channel c.self.view_is (λ full. true≢false (sym (c.if-ready.ensures.1 full))) c.receive-message.result c.receive-message.ensures.next
    c.first_of-s.result c.first_of-s.new.packet.items c.first_of-s.new.place c.first_of-s.ensures.within c.first_of-s.ensures.token c.first_of-s.ensures.lost
    (known c.receive-message.new.pass) c.receive-message.ensures.received c.ended_by-self-inside.result c.ended_by-self-inside.ensures in
    r.2 (length c.first_of-s.new.packet.items - c.first_of-s.new.place)
