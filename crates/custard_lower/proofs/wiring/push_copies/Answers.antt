use Rattle.std.proofs.Common.{◌∙◌, ap, get_or}
use Rattle.custard_lower.specs.Fans.{no_read, channel_from, copy_from}
use Rattle.custard_lower.proofs.draft.Pushes.{item-pushed}
use Rattle.custard_lower.proofs.wiring.push_copies.Goals as goal

pub loop-port-preserved : goal.loop-port-preserved
loop-port-preserved c =
    let fan = c.args.fan.now in
    let i = c.loop-port.port in
    let is = c.channel_from.ensures
    ∙ ap (λ rs. channel_from fan.ending i (get_or rs i no_read) c.args.label) c.as_slice-read-items.ensures in
    item-pushed (copy_from fan c.args.label) c.args.channels.now c.loop-port.channels c.push.new.self i c.channel_from.result
    c.loop-port.invariant c.in_ok-push.ensures.ok is
