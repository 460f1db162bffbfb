-- An order of the blocks in which channels lead forwards.
use Rattle.std.specs.Prelude.{◌≡◌, ◌<◌, ℕ, List, length, eqb}
use Rattle.std.specs.List.{All, Contains, position_or_len}
use Rattle.graph.specs.declared.graphs.Graph.{Graph}
use Rattle.graph.specs.Wiring.{Rises}

-- the first place at which a block stands
abbrev pub place_in : List ℕ → ℕ → ℕ
place_in order b = position_or_len (λ x. eqb x b) order

-- Each block stands in it once, and the sender of each channel stands before its receiver.
pub record IsForwardOrder (g : Graph) (order : List ℕ) : Type 0 where
  pub number : length order ≡ length g.blocks
  pub blocks : All (λ b. b < length g.blocks) order
  pub whole : (b : ℕ) → b < length g.blocks → Contains order b
  pub forwards : Rises g (place_in order)
