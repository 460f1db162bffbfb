use Rattle.std.proofs.Common.{◌≡◌, ◌<◌, ◌+◌, ◌^◌, ◌∙◌, [], get_or, length, sym, ap, arith}
use Rattle.std.proofs.lemmas.List.{get_or_default, length-set}
use Rattle.std.proofs.lemmas.List.Elements.{All-get_or}
use Rattle.std.proofs.lemmas.Option.{get_or_from_slice_get}
use Rattle.custard_lower.specs.declared.fans.Fan.{Fan}
use Rattle.custard_lower.specs.Fans.{no_read, no_fan, fan_channel}
use Rattle.custard_lower.specs.DraftFans.{fan_at, read_channel}
use Rattle.custard_lower.proofs.draft.Pushes.{item-pushed}
use Rattle.custard_lower.proofs.draft.PlaceSteps.{reads_before, reads-before-most, places-more}
use Rattle.custard_lower.proofs.fans.channels_to.Goals as goal

pub channel_to-channel-requires : goal.channel_to-channel-requires
channel_to-channel-requires c =
    let reads = c.args.reads.now in
    let k = c.loop-read.read-index in
    let w = (get_or reads k no_read).output in
    let there : w < length c.args.fans.now = c.requires.within k no_read c.loop-read-test.true in
    let fan = get_or_from_slice_get c.args.fans.now w c.get.result.now no_fan c.get.ensures in
    let small = All-get_or (λ (f : Fan). f.first_copy < 2 ^ 32) c.args.fans.now w no_fan there c.requires.few_channels in
    let place = c.index.ensures
    ∙ get_or_default c.loop-read.places.items w c.index.result.now 0 (omega (arith, there, c.loop-read.invariant.number))
    ∙ c.loop-read.invariant.each w there in
    omega (arith, small, ap (λ (f : Fan). f.first_copy) fan, place, reads-before-most reads w k, c.requires.few_reads)

pub overflow_add-index_mut : goal.overflow_add-index_mut
overflow_add-index_mut c =
    let reads = c.args.reads.now in
    let k = c.loop-read.read-index in
    let w = (get_or reads k no_read).output in
    let there : w < length c.args.fans.now = c.requires.within k no_read c.loop-read-test.true in
    let place = c.index_mut.ensures.value
    ∙ get_or_default c.loop-read.places.items w c.index_mut.result.now 0 (omega (arith, there, c.loop-read.invariant.number))
    ∙ c.loop-read.invariant.each w there in
    omega (arith, place, reads-before-most reads w k, c.requires.few_reads)

pub loop-read-preserved : goal.loop-read-preserved
loop-read-preserved c =
    let reads = c.args.reads.now in
    let fans = c.args.fans.now in
    let k = c.loop-read.read-index in
    let w = (get_or reads k no_read).output in
    let there : w < length fans = c.requires.within k no_read c.loop-read-test.true in
    let fan : c.get.result.now ≡ fan_at fans w = sym (get_or_from_slice_get fans w c.get.result.now no_fan c.get.ensures) in
    let place : c.index.result.now ≡ reads_before reads w k = c.index.ensures
    ∙ get_or_default c.loop-read.places.items w c.index.result.now 0 (omega (arith, there, c.loop-read.invariant.number))
    ∙ c.loop-read.invariant.each w there in
    record {
      channels = item-pushed (read_channel fans reads) [] c.loop-read.channels.items c.push.new.self.items k c.channel_to-channel.result
          c.loop-read.invariant.channels c.in_ok-push.ensures.items
          (c.channel_to-channel.ensures
          ∙ ap (λ (f : Fan). fan_channel f w c.index.result.now) fan
          ∙ ap (fan_channel (fan_at fans w) w) place);
      number = length-set c.loop-read.places.items w (c.index_mut.result.now + 1) ∙ c.loop-read.invariant.number;
      each = places-more reads c.loop-read.places.items (length fans) k c.index_mut.result.now c.loop-read.invariant.number
          c.loop-read-test.true there c.index_mut.ensures.value c.loop-read.invariant.each;
    }
