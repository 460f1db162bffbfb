use Rattle.std.proofs.Common.{◌≤◌, ℕ, sym, subst}
use Rattle.crossbeam_channel.specs.Ends.{sends_on, ruled_capacity}
use Rattle.ruled_wires.specs.Ends.{wire_stream}
use Rattle.ruled_wires.specs.Passes.{known}
use Rattle.ruled_wires.proofs.Sends.{sent-some}
use Rattle.ruled_wires.proofs.ends.Tx.try_tokens.Goals as goal

pub invariant_of-self : goal.invariant_of-self
invariant_of-self g c =
    let i = c.self.invariant in
    let t = c.self.inside in
    let sent = c.send_kept.ensures.sent c.if-send_kept.true in (
      c.send_kept.ensures.seat,
      sent-some (wire_stream g.W.Streams.streams t.channel) (ruled_capacity (sends_on t.sender)) t.kept.items t.kept_lost t.messages t.ended (known t.pass) i.1
          sent.0 sent.1 sent.2 c.send_kept.new.kept.items sent.3 (known c.send_kept.new.pass) sent.4
          c.saturating_add-self-inside.result c.saturating_add-self-inside.ensures,
      subst (λ (n : ℕ). 64 ≤ n) (sym c.send_kept.ensures.room) i.2,
    )
