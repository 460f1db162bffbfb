use Rattle.std.proofs.Common.{◌≡◌, ◌+◌, ◌∙◌, ℕ, [], List, length, slice_range, map, refl, ap, arith}
use Rattle.std.specs.List.{range_with_len}
use Rattle.std.proofs.lemmas.List.{length-map}
use Rattle.graph.specs.declared.graphs.Block.{Block}
use Rattle.custard_lower.specs.declared.drafts.Made.{Made}
use Rattle.custard_lower.specs.DraftGraph.{made_at, first_output, reads_at, reads_of, channel_to, draft_block}
use Rattle.custard_lower.proofs.draft.Pushes.{item-pushed}
use Rattle.custard_lower.proofs.draft.ItemReads.{block-read}
use Rattle.custard_lower.proofs.draft.Readers.{block-reads, block-reads-within}
use Rattle.custard_lower.proofs.draft.GraphPlaces.{first-output-next}
use Rattle.custard_lower.proofs.draft.ChannelSteps.{labels-most}
use Rattle.custard_lower.proofs.draft.BlockSteps.{ins-piece}
use Rattle.custard_lower.proofs.wiring.draft_blocks.Goals as goal

pub overflow_add-next_read : goal.overflow_add-next_read
overflow_add-next_read c =
    let made = c.args.made.now in
    let b = c.loop-made.made-index in
    let read = block-read made c.as_slice-made-items.result.now b c.made-item.result c.as_slice-made-items.ensures c.made-item.is
    c.loop-made-test.true in
    let ins = c.len.ensures ∙ ap (λ (m : Made). length m.ins) read.1 in
    let most = block-reads-within made b read.0 in
    omega (arith, c.loop-made.invariant.first_read, ins, most, c.requires.small.reads)

pub offset_bounds-channels-first_read : goal.offset_bounds-channels-first_read
offset_bounds-channels-first_read c =
    let made = c.args.made.now in
    let b = c.loop-made.made-index in
    let read = block-read made c.as_slice-made-items.result.now b c.made-item.result c.as_slice-made-items.ensures c.made-item.is
    c.loop-made-test.true in
    let ins = c.len.ensures ∙ ap (λ (m : Made). length m.ins) read.1 in
    let most = block-reads-within made b read.0 in
    omega (arith, c.loop-made.invariant.first_read, ins, most, c.requires.small.reads)

pub slice_bounds-from_slice-end : goal.slice_bounds-from_slice-end
slice_bounds-from_slice-end c =
    let made = c.args.made.now in
    let b = c.loop-made.made-index in
    let read = block-read made c.as_slice-made-items.result.now b c.made-item.result c.as_slice-made-items.ensures c.made-item.is
    c.loop-made-test.true in
    let ins = c.len.ensures ∙ ap (λ (m : Made). length m.ins) read.1 in
    let most = block-reads-within made b read.0 in
    let long = ap (λ (cs : List ℕ). length cs) c.requires.channels ∙ length-map (reads_of made) (channel_to made) in
    let first = c.loop-made.invariant.first_read in
    omega (arith, long, first, ins, most)

pub numbers_from-requires : goal.numbers_from-requires
numbers_from-requires c =
    let made = c.args.made.now in
    let b = c.loop-made.made-index in
    let read = block-read made c.as_slice-made-items.result.now b c.made-item.result c.as_slice-made-items.ensures c.made-item.is
    c.loop-made-test.true in
    omega (
      arith,
      c.loop-made.invariant.first_output,
      c.len-in-loop-made.ensures,
      ap (λ (m : Made). length m.labels) read.1,
      labels-most made b read.0,
      c.requires.small.outputs,
    )

pub overflow_add-first_output : goal.overflow_add-first_output
overflow_add-first_output c =
    let made = c.args.made.now in
    let b = c.loop-made.made-index in
    let read = block-read made c.as_slice-made-items.result.now b c.made-item.result c.as_slice-made-items.ensures c.made-item.is
    c.loop-made-test.true in
    omega (
      arith,
      c.loop-made.invariant.first_output,
      c.len-in-loop-made-2.ensures,
      ap (λ (m : Made). length m.labels) read.1,
      labels-most made b read.0,
      c.requires.small.outputs,
    )

pub loop-made-preserved : goal.loop-made-preserved
loop-made-preserved c =
    let made = c.args.made.now in
    let b = c.loop-made.made-index in
    let read = block-read made c.as_slice-made-items.result.now b c.made-item.result c.as_slice-made-items.ensures c.made-item.is
    c.loop-made-test.true in
    let reads = c.len.ensures ∙ ap (λ (m : Made). length m.ins) read.1 in
    let labels = c.len-in-loop-made.ensures ∙ ap (λ (m : Made). length m.labels) read.1 in
    let kind : c.made-item.result.kind ≡ (made_at made b).kind = ap (λ (m : Made). m.kind) read.1 in
    let ins : c.from_vec.result ≡ map (channel_to made) (reads_at made b) =
    c.from_vec.ensures
    ∙ c.in_ok-ins.ensures.items
    ∙ ap (λ (cs : List ℕ). slice_range cs c.loop-made.first_read (c.loop-made.first_read + c.len.result)) c.requires.channels
    ∙ ins-piece made b c.loop-made.first_read (c.loop-made.first_read + c.len.result) read.0 c.loop-made.invariant.first_read
    (omega (arith, reads)) in
    let outs : c.in_ok-outs.outs ≡ range_with_len (first_output made b) (length (made_at made b).labels) =
    c.in_ok-outs.ensures
    ∙ ap (λ (n : ℕ). range_with_len n c.len-in-loop-made.result) c.loop-made.invariant.first_output
    ∙ ap (range_with_len (first_output made b)) labels in
    let block : Block = record { kind = c.made-item.result.kind; ins = c.from_vec.result; outs = c.in_ok-outs.outs } in
    let is : block ≡ draft_block made b = rw (kind, ins, outs) refl in
    record {
      blocks = item-pushed (draft_block made) [] c.loop-made.blocks c.push.new.self b block c.loop-made.invariant.blocks
          c.in_ok-push.ensures.ok is;
      first_read = omega (arith, reads, c.loop-made.invariant.first_read, block-reads made b);
      first_output = omega (
        arith,
        c.len-in-loop-made-2.ensures,
        ap (λ (m : Made). length m.labels) read.1,
        c.loop-made.invariant.first_output,
        first-output-next made b read.0,
      );
    }
