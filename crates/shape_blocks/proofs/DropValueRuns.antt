-- A new value dropper makes the moves of its kind.
use Rattle.std.proofs.Common.{ℕ, zero, suc, List, [], ◌∷◌, Some, None, refl}
use Rattle.stream_tokens.specs.declared.Token.TheVariants.{Item}
use Rattle.stream_tokens.specs.Nest.{Leaf, leaf, Fiber}
use Rattle.block_core.specs.Move.{Move, Taking}
use Rattle.block_core.specs.Ports.{Streams}
use Rattle.block_core.specs.DropValue.{put_kept, dropvalue_close, dropvalue_leaves, dropvalue_moves}
use Rattle.block_core.specs.Kind.{DropValueKind, Fits, reading}
use Rattle.block_core.specs.Runs.{Runs}
use Rattle.block_core.specs.Stands.{Stands}
use Rattle.block_core.proofs.Standing.{stands-start}
use Rattle.shape_blocks.specs.DropValueSteps.{drop_value_steps}
use Rattle.shape_blocks.specs.declared.drop_value.DropValueState.TheVariants.{Coordinate, Value}

-- what follows a coordinate
beside-run : (c : ℕ) (v : Leaf) (rest : List Move) → Runs drop_value_steps Coordinate rest
    → Runs drop_value_steps (Value (Item c)) (Taking 1 (leaf v) ∷ put_kept c v rest)
beside-run c None rest h = (refl, h)
beside-run c (Some x) rest h = (refl, (refl, (refl, h)))

leaves-run : (ps : List (ℕ × Leaf)) (rest : List Move) → Runs drop_value_steps Coordinate rest
    → Runs drop_value_steps Coordinate (dropvalue_leaves ps rest)
leaves-run [] rest h = h
leaves-run (p ∷ ps) rest h = (refl, beside-run p.0 p.1 (dropvalue_leaves ps rest) (leaves-run ps rest h))

close-run : (n : ℕ) (rest : List Move) → Runs drop_value_steps Coordinate rest
    → Runs drop_value_steps Coordinate (dropvalue_close n rest)
close-run zero rest h = h
close-run (suc k) rest h = (refl, (refl, (refl, (refl, h))))

pub drop-value-run : (fs : List (Fiber (ℕ × Leaf))) → Runs drop_value_steps Coordinate (dropvalue_moves fs)
drop-value-run [] = (refl, (refl, (refl, (refl, refl))))
drop-value-run (f ∷ fs) = leaves-run f.0 _ (close-run f.1 _ (drop-value-run fs))

pub drop-value-starts : (s : Streams) → Fits DropValueKind s → Stands (Runs drop_value_steps Coordinate) DropValueKind s 0
drop-value-starts s f = stands-start drop_value_steps Coordinate DropValueKind s f (drop-value-run (reading DropValueKind s))
