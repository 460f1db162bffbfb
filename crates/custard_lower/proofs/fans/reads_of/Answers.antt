use Rattle.std.proofs.Common.{[], ap, arith, length}
use Rattle.custard_lower.specs.declared.drafts.Made.{Made}
use Rattle.custard_lower.specs.DraftGraph.{port_reads, reads_at}
use Rattle.custard_lower.proofs.draft.Readers.{block-reads-within}
use Rattle.custard_lower.proofs.draft.Pushes.{piece-pushed}
use Rattle.custard_lower.proofs.draft.ItemReads.{block-read}
use Rattle.custard_lower.proofs.fans.reads_of.Goals as goal

pub push_reads-requires : goal.push_reads-requires
push_reads-requires c =
    let made = c.args.made.now in
    let b = c.loop-block.block in
    let read = block-read made c.as_slice-made-items.result.now b c.made-item.result c.as_slice-made-items.ensures c.made-item.is
    c.loop-block-test.true in
    omega (arith, ap (λ (m : Made). length m.ins) read.1, block-reads-within made b read.0, c.requires.reads)

pub loop-block-preserved : goal.loop-block-preserved
loop-block-preserved c =
    let made = c.args.made.now in
    let b = c.loop-block.block in
    let read = block-read made c.as_slice-made-items.result.now b c.made-item.result c.as_slice-made-items.ensures c.made-item.is
    c.loop-block-test.true in
    piece-pushed (reads_at made) [] c.loop-block.reads.items c.push_reads.new.reads.items (port_reads b c.made-item.result.ins) b
    c.loop-block.invariant c.in_ok-push_reads.ensures (ap (λ (m : Made). port_reads b m.ins) read.1)
