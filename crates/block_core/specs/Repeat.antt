-- repeat: each token of the outer stream, as often as its fiber of the inner stream is long.
use Rattle.std.specs.Prelude.{ℕ, zero, suc, pred, List, [], ◌∷◌}
use mathlib.Core.List.{map}
use Rattle.stream_tokens.specs.declared.Token.TheVariants.{Item, Stop, Done}
use Rattle.stream_tokens.specs.Nest.{Leaf, leaf, Fiber}
use Rattle.stream_tokens.specs.Flat.{flat, fibers_of}
use Rattle.stream_tokens.specs.Shapes.{under, split}
use Rattle.block_core.specs.Move.{Move, Taking, Putting}
use Rattle.block_core.specs.Ports.{Streams, port, numbers_of, first_leaf, second}

abbrev pub copies_of : Leaf × List ℕ → List Leaf
copies_of m = map (λ _. m.0) m.1

-- each outer token with the fiber that lies beneath it
abbrev pub repeat_reading : Streams → List (Fiber (Leaf × List ℕ))
repeat_reading ins = split (fibers_of (port 1 ins)) (numbers_of (port 0 ins))

abbrev pub repeat_inputs : List (Fiber (Leaf × List ℕ)) → Streams
repeat_inputs j = flat Item (under second j) ∷ flat first_leaf j ∷ []

abbrev pub repeat_outputs : List (Fiber (Leaf × List ℕ)) → Streams
repeat_outputs j = flat leaf (under copies_of j) ∷ []

-- ---- the moves

abbrev pub copy_moves : Leaf → List ℕ → List Move → List Move
copy_moves x [] rest = rest
copy_moves x (c ∷ cs) rest = Taking 0 (Item c) ∷ Putting 0 (leaf x) ∷ copy_moves x cs rest

abbrev pub repeat_close : ℕ → List Move → List Move
repeat_close zero rest = rest
repeat_close (suc k) rest = Taking 1 (Stop k) ∷ rest

-- a fiber of the tokens x, which has the coordinates cs beneath it, and of those that follow; it closes n lists
abbrev pub repeat_fiber : ℕ → Leaf → List ℕ → List (Leaf × List ℕ) → List Move → List Move
repeat_fiber n x cs [] rest = Taking 1 (leaf x) ∷ copy_moves x cs (Taking 0 (Stop n) ∷ Putting 0 (Stop n) ∷ repeat_close n rest)
repeat_fiber n x cs (m ∷ ms) rest = Taking 1 (leaf x) ∷ copy_moves x cs (Taking 0 (Stop 0) ∷ Putting 0 (Stop 0) ∷ repeat_fiber n m.0 m.1 ms rest)

abbrev pub repeat_moves : List (Fiber (Leaf × List ℕ)) → List Move
repeat_moves [] = Taking 1 Done ∷ Taking 0 Done ∷ Putting 0 Done ∷ []
repeat_moves (([], n) ∷ fs) = Taking 1 (Stop (pred n)) ∷ Taking 0 (Stop n) ∷ Putting 0 (Stop n) ∷ repeat_moves fs
repeat_moves (((m ∷ ms), n) ∷ fs) = repeat_fiber n m.0 m.1 ms (repeat_moves fs)
