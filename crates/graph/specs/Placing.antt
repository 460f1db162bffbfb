-- Blocks as they are placed one by one, each after the senders of its input channels.
use Rattle.std.specs.Prelude.{◌≡◌, ◌<◌, ◌≤◌, ℕ, ◌⊎◌, Bool, true, false, List, length, get_or, take}
use Rattle.std.specs.List.{Contains, count_by}
use Rattle.graph.specs.declared.graphs.Graph.{Graph}
use Rattle.graph.specs.declared.order.Progress.{Progress}
use Rattle.graph.specs.declared.order.Progress.TheVariants.{WaitsAt, Placed}
use Rattle.graph.specs.Wiring.{block, channel, into}

-- the block that sends to an input port
abbrev pub sender : Graph → ℕ → ℕ → ℕ
sender g b p = (channel g (into g b p)).from_block

abbrev pub progress_placed : Progress → Bool
progress_placed (WaitsAt p) = false
progress_placed Placed = true

-- how far a block is
abbrev pub reached : List Progress → ℕ → Progress
reached ps b = get_or ps b (WaitsAt 0)

abbrev pub BlockPlaced : List Progress → ℕ → Type 0
BlockPlaced ps b = reached ps b ≡ Placed

-- The order has each placed block once, after the senders of all its inputs, and the other blocks are past inputs whose
-- senders are placed.
pub record IsPlacing (g : Graph) (order : List ℕ) (ps : List Progress) : Type 0 where
  pub number : length ps ≡ length g.blocks
  pub counted : length order ≡ count_by progress_placed ps
  pub blocks : (i : ℕ) → i < length order → (get_or order i 0 < length g.blocks) × BlockPlaced ps (get_or order i 0)
  pub whole : (b : ℕ) → b < length g.blocks → BlockPlaced ps b → Contains order b
  pub after : (i p : ℕ) → i < length order → p < length (block g (get_or order i 0)).ins
      → Contains (take i order) (sender g (get_or order i 0) p)
  pub past : (b p q : ℕ) → b < length g.blocks → p < q → reached ps b ≡ WaitsAt q → BlockPlaced ps (sender g b p)
  pub within : (b q : ℕ) → b < length g.blocks → reached ps b ≡ WaitsAt q → q ≤ length (block g b).ins

-- More blocks may be placed, and where a block went on, it waits for one that was not placed.
pub record Later (g : Graph) (order : List ℕ) (ps : List Progress) (order' : List ℕ) (ps' : List Progress) : Type 0 where
  pub longer : length order ≤ length order'
  pub front : (i : ℕ) → i < length order → get_or order' i 0 ≡ get_or order i 0
  pub stay : (b : ℕ) → BlockPlaced ps b → BlockPlaced ps' b
  pub waits : (b q : ℕ) → b < length g.blocks → reached ps' b ≡ WaitsAt q
      → (reached ps b ≡ WaitsAt q) ⊎ ((q < length (block g b).ins) × (BlockPlaced ps (sender g b q) → ⊥))

-- a block that isn't placed waits at one of its ports
abbrev pub AllWait : Graph → List Progress → Type 0
AllWait g ps = (b q : ℕ) → b < length g.blocks → reached ps b ≡ WaitsAt q → q < length (block g b).ins

-- for none of the first n blocks of the order
abbrev pub WaitsPast : Graph → List ℕ → List Progress → ℕ → Type 0
WaitsPast g order ps n =
    (b q i : ℕ) → b < length g.blocks → reached ps b ≡ WaitsAt q → i < n → sender g b q ≡ get_or order i 0 → ⊥
