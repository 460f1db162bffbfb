use Rattle.std.proofs.Common.{◌+◌, ap, arith, length}
use Rattle.custard_lower.specs.declared.drafts.Made.{Made}
use Rattle.custard_lower.proofs.draft.GraphPlaces.{first-output-within, first-output-next}
use Rattle.custard_lower.proofs.draft.ItemReads.{block-read}
use Rattle.custard_lower.proofs.fans.output_count.Goals as goal

pub overflow_add-outputs : goal.overflow_add-outputs
overflow_add-outputs c =
    let made = c.args.made.now in
    let b = c.loop-made.made-index in
    let read = block-read made c.as_slice-made-items.result.now b c.made-item.result c.as_slice-made-items.ensures c.made-item.is
    c.loop-made-test.true in
    let next = first-output-next made b read.0 in
    let within = first-output-within made (b + 1) (omega (arith, read.0)) in
    omega (
      arith,
      c.loop-made.invariant,
      c.len-outputs.ensures,
      ap (λ (m : Made). length m.labels) read.1,
      next,
      within,
      c.requires.outputs,
    )
