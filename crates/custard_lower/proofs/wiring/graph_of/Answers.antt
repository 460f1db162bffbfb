use Rattle.std.proofs.Common.{◌<◌, ◌^◌, ◌∙◌, List, length, map, sym, ap, subst}
use Rattle.std.specs.List.{All, range_with_len}
use Rattle.custard_lower.specs.declared.fans.Read.{Read}
use Rattle.custard_lower.specs.declared.fans.Fan.{Fan}
use Rattle.custard_lower.specs.DraftGraph.{reads_of}
use Rattle.custard_lower.specs.DraftFans.{fans_of, read_channel}
use Rattle.custard_lower.proofs.draft.BlockSteps.{read-channels, reads-have-fans, first-copies-fit}
use Rattle.custard_lower.proofs.wiring.graph_of.Goals as goal

pub channels_to-requires-clause-within : goal.channels_to-requires-clause-within
channels_to-requires-clause-within c =
    let made = c.args.made.now in
    let reads = c.deref-2.ensures.value ∙ c.in_ok-reads.ensures in
    let all = reads-have-fans made c.requires.within in
    subst (λ (rs : List Read). All (λ (r : Read). r.output < length c.in_ok-fans.fans) rs) (sym reads)
    (subst (λ (fs : List Fan). All (λ (r : Read). r.output < length fs) (reads_of made)) (sym c.in_ok-fans.ensures) all)

pub channels_to-requires-clause-few_channels : goal.channels_to-requires-clause-few_channels
channels_to-requires-clause-few_channels c =
    subst (λ (fs : List Fan). All (λ (f : Fan). f.first_copy < 2 ^ 32) fs) (sym c.in_ok-fans.ensures)
    (first-copies-fit c.args.made.now c.requires.small)

pub blocks_of-requires-clause-channels : goal.blocks_of-requires-clause-channels
blocks_of-requires-clause-channels c =
    let made = c.args.made.now in
    let reads = c.deref-2.result.now in
    c.deref-3.ensures.value
    ∙ c.in_ok-into.ensures
    ∙ ap (λ (fs : List Fan). map (read_channel fs reads) (range_with_len 0 (length reads))) c.in_ok-fans.ensures
    ∙ ap (λ (rs : List Read). map (read_channel (fans_of made) rs) (range_with_len 0 (length rs)))
    (c.deref-2.ensures.value ∙ c.in_ok-reads.ensures)
    ∙ read-channels made c.requires.within
