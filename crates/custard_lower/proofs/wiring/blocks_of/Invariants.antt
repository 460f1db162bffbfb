use Rattle.std.proofs.Common.{◌≡◌, ◌++◌, length, map}
use Rattle.std.specs.List.{flat_map, range_with_len}
use Rattle.custard_lower.specs.DraftGraph.{draft_block, added_blocks}
use Rattle.custard_lower.proofs.wiring.blocks_of.Given as goal

abbrev pub invariant-loop-output : goal.invariant-loop-output
invariant-loop-output l =
    l.blocks
    ≡ map (draft_block l.fn.made) (range_with_len 0 (length l.fn.made)) ++ flat_map (added_blocks l.fn.made) (range_with_len 0 l.output)
