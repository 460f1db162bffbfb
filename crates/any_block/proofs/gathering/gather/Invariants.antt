use Rattle.std.proofs.Common.{◌≡◌, List}
use Rattle.std.specs.List.{range_with_len}
use mathlib.Core.List.{map}
use Rattle.sam_model.specs.Children.{Ranked}
use Rattle.block_core.specs.Written.{segs_of, crds_of}
use Rattle.graph.specs.Standing.{StandAt, final_position}
use Rattle.any_block.specs.contracts.blocks.AnyBlockBlockStep.TheImpl.{ghosts}
use Rattle.graph.specs.Writers.{level_stream}
use Rattle.any_block.proofs.gathering.gather.Given as goal

abbrev pub invariant-loop-above : goal.invariant-loop-above
invariant-loop-above l = record {
  segs : (storages : List Ranked) → StandAt ghosts.kind ghosts.stands storages l.g (final_position storages l.g) l.blocks
      → l.segs ≡ map (λ d. segs_of d (level_stream storages l.g d)) (range_with_len 1 l.above);
  crds : (storages : List Ranked) → StandAt ghosts.kind ghosts.stands storages l.g (final_position storages l.g) l.blocks
      → l.crds ≡ map (λ d. crds_of (level_stream storages l.g d)) (range_with_len 1 l.above);
}
