use Rattle.std.proofs.Common.{◌≡◌, ◌+◌, ◌++◌, ◌∙◌, ℕ, List, get_or, length, map, sym, ap, arith, length-append}
use Rattle.std.specs.List.{range_with_len}
use Rattle.std.proofs.lemmas.List.{get_or_default}
use Rattle.std.proofs.lemmas.List.FromFn.{length-map-range_with_len}
use Rattle.std.proofs.lemmas.Option.{get_or_from_slice_get}
use Rattle.stream_model.specs.declared.labels.Label.{Label}
use Rattle.graph.specs.declared.graphs.Channel.{Channel}
use Rattle.custard_lower.specs.declared.fans.Fan.{Fan}
use Rattle.custard_lower.specs.declared.fans.Read.{Read}
use Rattle.label_rules.specs.Labels.{no_label}
use Rattle.custard_lower.specs.Fans.{no_fan, fan_taker, channel_from}
use Rattle.custard_lower.specs.DraftFans.{fan_at, port_channel}
use Rattle.custard_lower.proofs.draft.Pushes.{item-pushed}
use Rattle.custard_lower.proofs.wiring.push_outputs.Goals as goal

-- how many channels there are after those of so many ports
so_many : (start channels : List Channel) (f : ℕ → Channel) (p : ℕ) → channels ≡ start ++ map f (range_with_len 0 p)
    → length channels ≡ length start + p
so_many start channels f p e =
    let both = length-append start (map f (range_with_len 0 p)) in
    omega (arith, ap (λ (xs : List Channel). length xs) e, both, length-map-range_with_len f 0 p)

pub get-requires : goal.get-requires
get-requires c =
    let number = so_many c.args.channels.now c.loop-port.channels
    (port_channel c.args.fans.now (length c.args.channels.now) c.args.block c.args.labels.now) c.loop-port.port c.loop-port.invariant in
    let labels = ap (λ (ls : List Label). length ls) c.as_slice-label-items.ensures in
    omega (arith, c.len-output.ensures, number, labels, c.loop-port-test.true, c.requires.within)

pub loop-port-preserved : goal.loop-port-preserved
loop-port-preserved c =
    let fans = c.args.fans.now in
    let first = length c.args.channels.now in
    let port = c.loop-port.port in
    let number : c.len-output.result ≡ first + port =
    c.len-output.ensures
    ∙ so_many c.args.channels.now c.loop-port.channels (port_channel fans first c.args.block c.args.labels.now) port
    c.loop-port.invariant in
    let fan : c.get.result.now ≡ fan_at fans c.len-output.result =
    sym (get_or_from_slice_get fans c.len-output.result c.get.result.now no_fan c.get.ensures) in
    let taker : c.taker-taker.result ≡ fan_taker (fan_at fans (first + port)) (first + port) =
    c.taker-taker.ensures
    ∙ ap (λ (f : Fan). fan_taker f c.len-output.result) fan
    ∙ ap (λ (w : ℕ). fan_taker (fan_at fans w) w) number in
    item-pushed (port_channel fans first c.args.block c.args.labels.now) c.args.channels.now c.loop-port.channels c.push.new.self port
    c.channel_from.result c.loop-port.invariant c.in_ok-push.ensures.ok
    (c.channel_from.ensures
    ∙ ap (channel_from c.args.block port c.taker-taker.result)
    (get_or_default c.as_slice-label-items.result.now port _ no_label c.loop-port-test.true)
    ∙ ap (λ (r : Read). channel_from c.args.block port r (get_or c.as_slice-label-items.result.now port no_label)) taker
    ∙ ap (λ ls. channel_from c.args.block port (fan_taker (fan_at fans (first + port)) (first + port)) (get_or ls port no_label))
    c.as_slice-label-items.ensures)
