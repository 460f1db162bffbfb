-- Where a block stands in the moves of its kind.
use Rattle.std.specs.Prelude.{ℕ, ◌≤◌, List, length, drop}
use Rattle.block_core.specs.Move.{Move}
use Rattle.block_core.specs.Ports.{Streams}
use Rattle.block_core.specs.Kind.{Kind, Fits, moves}

-- before its first move, for all whole inputs that fit
abbrev pub StandsAtStart : (Streams → ℕ → Type 0) → Kind → Type 0
StandsAtStart stands kind = (s : Streams) → Fits kind s → stands s 0

-- The first n moves for these whole inputs were made, and the block, of which W says which moves it will make, will make
-- the others.
pub record Stands (W : List Move → Type 0) (kind : Kind) (ins : Streams) (n : ℕ) : Type 0 where
  pub fits : Fits kind ins
  pub within : n ≤ length (moves kind ins)
  pub rest : W (drop n (moves kind ins))
