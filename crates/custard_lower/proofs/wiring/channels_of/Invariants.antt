use Rattle.std.proofs.Common.{◌≡◌, ◌++◌, length}
use Rattle.std.specs.List.{flat_map, range_with_len}
use Rattle.custard_lower.specs.DraftGraph.{output_channels, copy_channels}
use Rattle.custard_lower.proofs.wiring.channels_of.Given as goal

abbrev pub invariant-loop-block : goal.invariant-loop-block
invariant-loop-block l = l.channels ≡ flat_map (output_channels l.fn.made) (range_with_len 0 l.block)

abbrev pub invariant-loop-output : goal.invariant-loop-output
invariant-loop-output l =
    l.channels
    ≡ flat_map (output_channels l.fn.made) (range_with_len 0 (length l.fn.made))
    ++ flat_map (copy_channels l.fn.made) (range_with_len 0 l.output)
