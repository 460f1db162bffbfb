use Rattle.std.proofs.Common.{◌≡◌, map}
use Rattle.std.specs.List.{range_with_len}
use Rattle.custard_lower.specs.DraftGraph.{first_output, reads_at, draft_block}
use Rattle.custard_lower.proofs.draft.Pieces.{before}
use Rattle.custard_lower.proofs.wiring.draft_blocks.Given as goal

abbrev pub invariant-loop-made : goal.invariant-loop-made
invariant-loop-made l = record {
  blocks : l.blocks ≡ map (draft_block l.fn.made) (range_with_len 0 l.made-index);
  first_read : l.first_read ≡ before (reads_at l.fn.made) l.made-index;
  first_output : l.first_output ≡ first_output l.fn.made l.made-index;
}
