use Rattle.std.proofs.Common.{◌≡◌, ◌<◌, ◌≤◌, ℕ, false, sym, subst}
use Rattle.std.specs.Prelude.{Some, slice_get}
use Rattle.crossbeam_channel.specs.Ends.{sends_on, ruled_capacity}
use Rattle.ruled_wires.specs.Ends.{End, wire_stream}
use Rattle.ruled_wires.specs.Passes.{known}
use Rattle.ruled_wires.proofs.Sends.{keeps-token}
use Rattle.ruled_wires.proofs.ends.Tx.put_token.Goals as goal

pub invariant_of-self : goal.invariant_of-self
invariant_of-self g c =
    let i = c.self.invariant in
    let t = c.self.inside in
    let unlost = subst (λ (e : End). e.lost ≡ false) (sym c.self.view_is) c.requires.unlost in
    let room = subst (λ (e : End). e.kept < 64) (sym c.self.view_is) c.requires.room in
    let next = subst (λ (e : End). slice_get (wire_stream g.W.Streams.streams e.channel) e.count ≡ Some c.args.t) (sym c.self.view_is) c.requires.next in (
      i.0,
      keeps-token (wire_stream g.W.Streams.streams t.channel) (ruled_capacity (sends_on t.sender)) t.kept.items t.kept_lost t.messages t.ended (known t.pass) i.1
          unlost room c.args.t next c.push_reserved.new.self.items c.push_reserved.ensures.items c.ended_by-self-inside.result c.ended_by-self-inside.ensures,
      subst (λ (n : ℕ). 64 ≤ n) (sym c.push_reserved.ensures.capacity) i.2,
    )
