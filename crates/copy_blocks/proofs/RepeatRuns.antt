-- A new repeater makes the moves of its kind.
use Rattle.std.proofs.Common.{ℕ, zero, suc, List, [], ◌∷◌, Some, None, refl}
use Rattle.stream_tokens.specs.Nest.{Leaf, leaf, Fiber}
use Rattle.block_core.specs.Move.{Move}
use Rattle.block_core.specs.Repeat.{copy_moves, repeat_fiber, repeat_moves}
use Rattle.block_core.specs.Ports.{Streams}
use Rattle.block_core.specs.Kind.{RepeatKind, Fits, reading}
use Rattle.block_core.specs.Runs.{Runs}
use Rattle.block_core.specs.Stands.{Stands}
use Rattle.block_core.proofs.Standing.{stands-start}
use Rattle.copy_blocks.specs.RepeatSteps.{repeat_steps}
use Rattle.copy_blocks.specs.declared.repeat.RepeatState.TheVariants.{Outer, Inner}

copy-run : (x : Leaf) (cs : List ℕ) (rest : List Move)
    → Runs repeat_steps (Inner (leaf x)) rest → Runs repeat_steps (Inner (leaf x)) (copy_moves x cs rest)
copy-run x [] rest h = h
copy-run x (c ∷ cs) rest h = (refl, (refl, copy-run x cs rest h))

fiber-run : (n : ℕ) (x : Leaf) (cs : List ℕ) (ms : List (Leaf × List ℕ)) (rest : List Move)
    → Runs repeat_steps Outer rest → Runs repeat_steps Outer (repeat_fiber n x cs ms rest)
fiber-run n (Some x) cs (m ∷ ms) rest h = (refl, copy-run (Some x) cs _ (refl, (refl, fiber-run n m.0 m.1 ms rest h)))
fiber-run n None cs (m ∷ ms) rest h = (refl, copy-run None cs _ (refl, (refl, fiber-run n m.0 m.1 ms rest h)))
fiber-run zero (Some x) cs [] rest h = (refl, copy-run (Some x) cs _ (refl, (refl, h)))
fiber-run zero None cs [] rest h = (refl, copy-run None cs _ (refl, (refl, h)))
fiber-run (suc k) (Some x) cs [] rest h = (refl, copy-run (Some x) cs _ (refl, (refl, (refl, h))))
fiber-run (suc k) None cs [] rest h = (refl, copy-run None cs _ (refl, (refl, (refl, h))))

pub repeat-run : (fs : List (Fiber (Leaf × List ℕ))) → Runs repeat_steps Outer (repeat_moves fs)
repeat-run [] = (refl, (refl, (refl, refl)))
repeat-run (([], n) ∷ fs) = (refl, (refl, (refl, repeat-run fs)))
repeat-run (((m ∷ ms), n) ∷ fs) = fiber-run n m.0 m.1 ms (repeat_moves fs) (repeat-run fs)

pub repeat-starts : (s : Streams) → Fits RepeatKind s → Stands (Runs repeat_steps Outer) RepeatKind s 0
repeat-starts s f = stands-start repeat_steps Outer RepeatKind s f (repeat-run (reading RepeatKind s))
