-- The latest block of an order that each block reaches.
use Rattle.std.specs.Prelude.{◌≡◌, ◌<◌, ◌≤◌, ◌-◌, ℕ, suc, Bool, true, false, Option, Some, None, List, length, get_or}
use Rattle.std.specs.List.{count_by}
use Rattle.graph.specs.declared.graphs.Graph.{Graph}
use Rattle.graph.specs.Wiring.{block, channel}
use Rattle.graph.specs.Placing.{sender}
use Rattle.graph_wiring.specs.Leading.{Reaches}
use Rattle.graph_wiring.specs.Searching.{Among, receiver}

-- one more than a place; 0 for none
abbrev pub height : Option ℕ → ℕ
height None = 0
height (Some place) = suc place

abbrev pub is_given : Option ℕ → Bool
is_given None = false
is_given (Some place) = true

abbrev pub top : List (Option ℕ) → ℕ → ℕ
top tops b = height (get_or tops b None)

-- a channel leads from a block to one of the same top
abbrev pub KeepsTop : Graph → List (Option ℕ) → ℕ → Type 0
KeepsTop g tops b = (p : ℕ) × (p < length (block g b).outs) × (top tops (receiver g b p) ≡ top tops b)

-- Each block has the place of a block that it reaches, no earlier than its own, and no channel leads to a later one.
pub record IsTops (g : Graph) (order : List ℕ) (tops : List (Option ℕ)) : Type 0 where
  pub number : length tops ≡ length g.blocks
  pub given : (b : ℕ) → b < length g.blocks → (0 < top tops b) × (top tops b ≤ length order)
  pub reaches : (b : ℕ) → b < length g.blocks → Reaches g b (get_or order (top tops b - 1) 0)
  pub above : (q : ℕ) → q < length order → q < top tops (get_or order q 0)
  pub falls : (c : ℕ) → c < length g.channels → top tops (channel g c).to_block ≤ top tops (channel g c).from_block

-- The blocks that reach a place from this one on are given the latest; those after the first n may have senders without one.
pub record IsTopping (g : Graph) (order : List ℕ) (place n : ℕ) (given : List ℕ) (tops : List (Option ℕ)) : Type 0 where
  pub number : length tops ≡ length g.blocks
  pub counted : length given ≡ count_by is_given tops
  pub within : n ≤ length given
  pub blocks : (i : ℕ) → i < length given → (get_or given i 0 < length g.blocks) × (0 < top tops (get_or given i 0))
  pub whole : (b : ℕ) → 0 < top tops b → Among given (length given) b
  pub bounds : (b : ℕ) → 0 < top tops b → (place < top tops b) × (top tops b ≤ length order)
  pub reaches : (b : ℕ) → 0 < top tops b → Reaches g b (get_or order (top tops b - 1) 0)
  pub passed : (i p : ℕ) → i < n → p < length (block g (get_or given i 0)).ins
      → top tops (get_or given i 0) ≤ top tops (sender g (get_or given i 0) p)
  pub pending : (i : ℕ) → n ≤ i → i < length given → top tops (get_or given i 0) ≡ suc place

-- those that were given stay as they are
pub record TopsStay (given : List ℕ) (tops : List (Option ℕ)) (given' : List ℕ) (tops' : List (Option ℕ)) : Type 0 where
  pub longer : length given ≤ length given'
  pub front : (i : ℕ) → i < length given → get_or given' i 0 ≡ get_or given i 0
  pub stay : (b : ℕ) → 0 < top tops b → top tops' b ≡ top tops b
