use Rattle.std.proofs.Common.{◌≡◌, ◌++◌, ◌∙◌, ℕ, List, length, map, ap, arith}
use Rattle.std.specs.List.{flat_map, range_with_len}
use Rattle.custard_lower.specs.declared.fans.Fan.{Fan}
use Rattle.custard_lower.specs.Drafts.{outputs_of}
use Rattle.custard_lower.specs.Fans.{fan_blocks}
use Rattle.custard_lower.specs.DraftGraph.{draft_block, added_blocks}
use Rattle.custard_lower.proofs.draft.Pushes.{piece-pushed}
use Rattle.custard_lower.proofs.draft.ItemReads.{fans-number, fan-read}
use Rattle.custard_lower.proofs.draft.FanSteps.{first-copy-fits}
use Rattle.custard_lower.proofs.draft.ChannelSteps.{readers-most}
use Rattle.custard_lower.proofs.wiring.blocks_of.Goals as goal

pub push_ending-requires-clause-number : goal.push_ending-requires-clause-number
push_ending-requires-clause-number c =
    let made = c.args.made.now in
    let w = c.loop-output.output in
    let read = fan-read made c.args.fans.now c.as_slice-fan-items.result.now w c.fan-item.result c.as_slice-fan-items.ensures
    c.requires.fans c.fan-item.is c.loop-output-test.true in
    omega (arith, ap (λ (f : Fan). length f.readers) read.1, readers-most made w, c.requires.small.reads)

pub push_ending-requires-clause-channels : goal.push_ending-requires-clause-channels
push_ending-requires-clause-channels c =
    let made = c.args.made.now in
    let w = c.loop-output.output in
    let read = fan-read made c.args.fans.now c.as_slice-fan-items.result.now w c.fan-item.result c.as_slice-fan-items.ensures
    c.requires.fans c.fan-item.is c.loop-output-test.true in
    omega (
      arith,
      ap (λ (f : Fan). length f.readers) read.1,
      ap (λ (f : Fan). f.first_copy) read.1,
      readers-most made w,
      first-copy-fits made c.requires.small w,
      c.requires.small.reads,
    )

pub loop-output-preserved : goal.loop-output-preserved
loop-output-preserved c =
    let made = c.args.made.now in
    let w = c.loop-output.output in
    let read = fan-read made c.args.fans.now c.as_slice-fan-items.result.now w c.fan-item.result c.as_slice-fan-items.ensures
    c.requires.fans c.fan-item.is c.loop-output-test.true in
    let draft = map (draft_block made) (range_with_len 0 (length made)) in
    piece-pushed (added_blocks made) draft c.loop-output.blocks c.push_ending.new.blocks
    (fan_blocks c.fan-item.result w) w c.loop-output.invariant c.in_ok-push_ending.ensures
    (ap (λ (f : Fan). fan_blocks f w) read.1)

pub returns : goal.returns
returns c =
    let made = c.args.made.now in
    let fans = ap (λ (fs : List Fan). length fs) (c.as_slice-fan-items.ensures ∙ c.requires.fans) ∙ fans-number made in
    let all : c.loop-output.output ≡ outputs_of made = omega (arith, fans) in
    let draft = map (draft_block made) (range_with_len 0 (length made)) in
    c.loop-output.invariant ∙ ap (λ (n : ℕ). draft ++ flat_map (added_blocks made) (range_with_len 0 n)) all
