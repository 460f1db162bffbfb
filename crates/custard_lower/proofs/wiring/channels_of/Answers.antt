use Rattle.std.proofs.Common.{◌≡◌, ◌++◌, ◌∙◌, ℕ, [], List, length, map, sym, ap, arith, length-append}
use Rattle.std.specs.List.{flat_map, range_with_len}
use Rattle.std.proofs.lemmas.Option.{get_or_from_slice_get}
use Rattle.graph.specs.declared.graphs.Channel.{Channel}
use Rattle.graph.specs.Wiring.{no_channel}
use Rattle.custard_lower.specs.declared.drafts.Made.{Made}
use Rattle.custard_lower.specs.declared.fans.Fan.{Fan}
use Rattle.custard_lower.specs.Drafts.{outputs_of, label_at}
use Rattle.custard_lower.specs.Fans.{fan_channels}
use Rattle.custard_lower.specs.DraftGraph.{first_output, output_channels, copy_channels, fan_of}
use Rattle.custard_lower.specs.DraftFans.{fans_of, port_channel}
use Rattle.custard_lower.proofs.draft.Pushes.{piece-pushed}
use Rattle.custard_lower.proofs.draft.ItemReads.{block-read, fans-number, fan-read}
use Rattle.custard_lower.proofs.draft.GraphPlaces.{channels-before, first_channels, first-channels-number}
use Rattle.custard_lower.proofs.draft.ChannelSteps.{readers-most, labels-most, outputs-piece, label-of-channel}
use Rattle.custard_lower.proofs.wiring.channels_of.Goals as goal

pub push_outputs-requires-clause-few_labels : goal.push_outputs-requires-clause-few_labels
push_outputs-requires-clause-few_labels c =
    let made = c.args.made.now in
    let b = c.loop-block.block in
    let read = block-read made c.as_slice-made-items.result.now b c.made-item.result c.as_slice-made-items.ensures c.made-item.is
    c.loop-block-test.true in
    let most = labels-most made b read.0 in
    omega (arith, ap (λ (m : Made). length m.labels) read.1, most, c.requires.small.outputs)

pub push_outputs-requires-clause-within : goal.push_outputs-requires-clause-within
push_outputs-requires-clause-within c =
    let made = c.args.made.now in
    let b = c.loop-block.block in
    let read = block-read made c.as_slice-made-items.result.now b c.made-item.result c.as_slice-made-items.ensures c.made-item.is
    c.loop-block-test.true in
    let most = labels-most made b read.0 in
    let channels = ap (λ (cs : List Channel). length cs) c.loop-block.invariant ∙ channels-before made b (omega (arith, read.0)) in
    let fans = ap (λ (fs : List Fan). length fs) c.requires.fans ∙ fans-number made in
    omega (arith, ap (λ (m : Made). length m.labels) read.1, most, channels, fans)

pub loop-block-preserved : goal.loop-block-preserved
loop-block-preserved c =
    let made = c.args.made.now in
    let b = c.loop-block.block in
    let read = block-read made c.as_slice-made-items.result.now b c.made-item.result c.as_slice-made-items.ensures c.made-item.is
    c.loop-block-test.true in
    let channels = ap (λ (cs : List Channel). length cs) c.loop-block.invariant ∙ channels-before made b (omega (arith, read.0)) in
    let piece : ℕ → List Fan → Made → List Channel = λ first fans m.
    map (port_channel fans first b m.labels) (range_with_len 0 (length m.labels)) in
    piece-pushed (output_channels made) [] c.loop-block.channels c.push_outputs.new.channels
    (piece (length c.loop-block.channels) c.args.fans.now c.made-item.result) b c.loop-block.invariant c.in_ok-push_outputs.ensures
    (ap (λ (n : ℕ). piece n c.args.fans.now c.made-item.result) channels
    ∙ ap (λ (fs : List Fan). piece (first_output made b) fs c.made-item.result) c.requires.fans
    ∙ ap (λ (m : Made). piece (first_output made b) (fans_of made) m) read.1
    ∙ outputs-piece made b read.0)

pub get-requires : goal.get-requires
get-requires c =
    let made = c.args.made.now in
    let fans = ap (λ (fs : List Fan). length fs) (c.as_slice-fan-items.ensures ∙ c.requires.fans) ∙ fans-number made in
    let rest = flat_map (copy_channels made) (range_with_len 0 c.loop-output.output) in
    let channels = ap (λ (cs : List Channel). length cs) c.loop-output.invariant ∙ length-append (first_channels made) rest in
    omega (arith, fans, channels, first-channels-number made, c.loop-output-test.true)

pub push_copies-requires : goal.push_copies-requires
push_copies-requires c =
    let made = c.args.made.now in
    let w = c.loop-output.output in
    let read = fan-read made c.args.fans.now c.as_slice-fan-items.result.now w c.fan-item.result c.as_slice-fan-items.ensures
    c.requires.fans c.fan-item.is c.loop-output-test.true in
    omega (arith, ap (λ (f : Fan). length f.readers) read.1, readers-most made w, c.requires.small.reads)

pub loop-output-preserved : goal.loop-output-preserved
loop-output-preserved c =
    let made = c.args.made.now in
    let w = c.loop-output.output in
    let read = fan-read made c.args.fans.now c.as_slice-fan-items.result.now w c.fan-item.result c.as_slice-fan-items.ensures
    c.requires.fans c.fan-item.is c.loop-output-test.true in
    let label : c.get.result.now.label ≡ label_at made w =
    ap (λ (x : Channel). x.label) (sym (get_or_from_slice_get c.loop-output.channels w c.get.result.now no_channel c.get.ensures))
    ∙ label-of-channel made c.loop-output.channels (flat_map (copy_channels made) (range_with_len 0 w)) w c.loop-output.invariant read.0 in
    piece-pushed (copy_channels made) (first_channels made) c.loop-output.channels c.push_copies.new.channels
    (fan_channels c.fan-item.result c.get.result.now.label) w c.loop-output.invariant c.in_ok-push_copies.ensures
    (ap (λ (f : Fan). fan_channels f c.get.result.now.label) read.1 ∙ ap (fan_channels (fan_of made w)) label)

pub returns : goal.returns
returns c =
    let made = c.args.made.now in
    let fans = ap (λ (fs : List Fan). length fs) (c.as_slice-fan-items.ensures ∙ c.requires.fans) ∙ fans-number made in
    let all : c.loop-output.output ≡ outputs_of made = omega (arith, fans) in
    c.loop-output.invariant ∙ ap (λ (n : ℕ). first_channels made ++ flat_map (copy_channels made) (range_with_len 0 n)) all
