-- A new fiber dropper makes the moves of its kind.
use Rattle.std.proofs.Common.{ℕ, suc, Bool, true, false, List, [], ◌∷◌, refl, sym, subst}
use Rattle.stream_tokens.specs.declared.Token.TheVariants.{Item, Stop}
use Rattle.stream_tokens.specs.Nest.{Fiber}
use Rattle.stream_tokens.specs.Shapes.{Positive}
use Rattle.block_core.specs.Move.{Move, Taking}
use Rattle.block_core.specs.Ports.{Streams}
use Rattle.block_core.specs.DropFiber.{pass_items, keep_moves, keep_close, keep_fiber, dropfiber_moves}
use Rattle.block_core.specs.Kind.{DropFiberKind, Fits, reading}
use Rattle.block_core.specs.Runs.{Runs}
use Rattle.block_core.specs.Stands.{Stands}
use Rattle.block_core.proofs.Standing.{stands-start}
use Rattle.shape_blocks.specs.DropFiberSteps.{drop_fiber_steps}
use Rattle.shape_blocks.specs.declared.drop_fiber.DropFiberState.TheVariants.{Outer, First, Rest}

-- the other items of a kept fiber, up to its stop
items-run : (cs : List ℕ) (n : ℕ) (rest : List Move) → Runs drop_fiber_steps Rest (Taking 1 (Stop n) ∷ rest)
    → Runs drop_fiber_steps Rest (pass_items cs (Taking 1 (Stop n) ∷ rest))
items-run [] n rest h = h
items-run (c ∷ cs) n rest h = (refl, (refl, items-run cs n rest h))

-- a coordinate with its fiber, which ends with the stop 0: then the next one follows
next-run : (more : Bool) (a : ℕ) (cs : List ℕ) (go : Bool → List Move)
    → ((after : Bool) → Runs drop_fiber_steps (Outer after) (go after))
    → Runs drop_fiber_steps (First more (Item a)) (keep_moves more a cs (λ after. Taking 1 (Stop 0) ∷ go after))
next-run more a [] go h = (refl, h more)
next-run true a (c ∷ cs) go h = (refl, (refl, (refl, (refl, items-run cs 0 (go true) (refl, h true)))))
next-run false a (c ∷ cs) go h = (refl, (refl, (refl, items-run cs 0 (go true) (refl, h true))))

-- the last coordinate of an outer fiber, with its fiber
last-run : (more : Bool) (a k : ℕ) (cs : List ℕ) (rest : List Move) → Runs drop_fiber_steps (Outer false) rest
    → Runs drop_fiber_steps (First more (Item a)) (keep_moves more a cs (λ _. Taking 1 (Stop (suc k)) ∷ keep_close (suc k) rest))
last-run more a k [] rest h = (refl, (refl, (refl, (refl, h))))
last-run true a k (c ∷ cs) rest h = (refl, (refl, (refl, (refl, items-run cs (suc k) _ (refl, (refl, (refl, (refl, h))))))))
last-run false a k (c ∷ cs) rest h = (refl, (refl, (refl, items-run cs (suc k) _ (refl, (refl, (refl, (refl, h)))))))

-- an outer fiber
fiber-run : (k : ℕ) (m : ℕ × List ℕ) (ms : List (ℕ × List ℕ)) (rest : List Move) (more : Bool)
    → Runs drop_fiber_steps (Outer false) rest → Runs drop_fiber_steps (Outer more) (keep_fiber (suc k) m ms rest more)
fiber-run k m [] rest more h = (refl, last-run more m.0 k m.1 rest h)
fiber-run k m (m' ∷ ms) rest more h =
    (refl, next-run more m.0 m.1 (keep_fiber (suc k) m' ms rest) (λ after. fiber-run k m' ms rest after h))

pub drop-fiber-run : (fs : List (Fiber (ℕ × List ℕ))) → Positive fs → Runs drop_fiber_steps (Outer false) (dropfiber_moves fs)
drop-fiber-run [] p = (refl, (refl, (refl, (refl, refl))))
drop-fiber-run (([], n) ∷ fs) p = (refl, (refl, (refl, (refl, drop-fiber-run fs p.1))))
drop-fiber-run (((m ∷ ms), n) ∷ fs) p =
    let P : ℕ → Type 0 = λ x. Runs drop_fiber_steps (Outer false) (keep_fiber x m ms (dropfiber_moves fs) false) in
    subst P (sym p.0.1) (fiber-run p.0.0 m ms (dropfiber_moves fs) false (drop-fiber-run fs p.1))

pub drop-fiber-starts : (s : Streams) → Fits DropFiberKind s → Stands (Runs drop_fiber_steps (Outer false)) DropFiberKind s 0
drop-fiber-starts s f =
    stands-start drop_fiber_steps (Outer false) DropFiberKind s f (drop-fiber-run (reading DropFiberKind s) f.well)
