-- A search of a graph that follows channels forwards, and the order in which it is done with blocks.
use Rattle.std.specs.Prelude.{◌≡◌, ◌<◌, ◌≤◌, ℕ, ◌⊎◌, List, length, get_or}
use Rattle.graph.specs.declared.graphs.Graph.{Graph}
use Rattle.graph.specs.Wiring.{block, channel, out_of}
use Rattle.graph_wiring.specs.declared.search.Progress.{Progress}
use Rattle.graph_wiring.specs.declared.search.Progress.TheVariants.{Fresh, Open, Done}
use Rattle.graph_wiring.specs.Leading.{Reaches}

-- the block that receives from an output port
abbrev pub receiver : Graph → ℕ → ℕ → ℕ
receiver g b p = (channel g (out_of g b p)).to_block

-- a number among the first n of a list
abbrev pub Among : List ℕ → ℕ → ℕ → Type 0
Among xs n x = (i : ℕ) × (i < n) × (get_or xs i 0 ≡ x)

-- a list has no number twice
abbrev pub Once : List ℕ → Type 0
Once xs = (i j : ℕ) → i < length xs → j < length xs → get_or xs i 0 ≡ get_or xs j 0 → i ≡ j

-- where a block leads to one that doesn't stand earlier, that one reaches all that stand from the first to before its own
-- place
abbrev pub Closes : Graph → List ℕ → Type 0
Closes g order =
    (i p k : ℕ) → i < length order → p < length (block g (get_or order i 0)).outs → i ≤ k → k < length order
    → Among order k (receiver g (get_or order i 0) p) ⊎ Reaches g (receiver g (get_or order i 0) p) (get_or order k 0)

-- an order of all blocks, each once, that closes
pub record IsClosing (g : Graph) (order : List ℕ) : Type 0 where
  pub blocks : (i : ℕ) → i < length order → get_or order i 0 < length g.blocks
  pub once : Once order
  pub whole : (b : ℕ) → b < length g.blocks → Among order (length order) b
  pub closes : Closes g order

-- how far the search is with a block
abbrev pub at : List Progress → ℕ → Progress
at ps b = get_or ps b Fresh

-- how many steps are left for a block
abbrev pub steps_of : Progress → ℕ
steps_of Fresh = 2
steps_of (Open p) = 1
steps_of Done = 0

abbrev pub IsMet : List Progress → ℕ → Type 0
IsMet ps b = at ps b ≡ Fresh → ⊥

-- The open blocks are those on the stack, each reaching the later ones; the blocks that are done stand in the order.
pub record IsSearch (g : Graph) (open_blocks order : List ℕ) (ps : List Progress) : Type 0 where
  pub number : length ps ≡ length g.blocks
  pub opened : (i : ℕ) → i < length open_blocks
      → (get_or open_blocks i 0 < length g.blocks) × ((p : ℕ) × (at ps (get_or open_blocks i 0) ≡ Open p))
  pub apart : Once open_blocks
  pub standing : (b p : ℕ) → at ps b ≡ Open p → Among open_blocks (length open_blocks) b
  pub path : (i j : ℕ) → i ≤ j → j < length open_blocks → Reaches g (get_or open_blocks i 0) (get_or open_blocks j 0)
  pub closed : (i : ℕ) → i < length order → (get_or order i 0 < length g.blocks) × (at ps (get_or order i 0) ≡ Done)
  pub once : Once order
  pub whole : (b : ℕ) → at ps b ≡ Done → Among order (length order) b
  pub within : (b q : ℕ) → at ps b ≡ Open q → q ≤ length (block g b).outs
  pub passed : (b p q : ℕ) → at ps b ≡ Open q → p < q → IsMet ps (receiver g b p)
  pub met : (i p : ℕ) → i < length order → p < length (block g (get_or order i 0)).outs → IsMet ps (receiver g (get_or order i 0) p)
  pub closes : Closes g order

-- blocks that were met stay so
abbrev pub StayMet : List Progress → List Progress → Type 0
StayMet ps ps' = (b : ℕ) → IsMet ps b → IsMet ps' b
