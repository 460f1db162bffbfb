-- Where channels lead, one after another, and which blocks lie on a cycle.
use Rattle.std.specs.Prelude.{◌≡◌, ◌<◌, ℕ, zero, suc, Option, Some, None, length}
use Rattle.graph.specs.declared.graphs.Graph.{Graph}
use Rattle.graph.specs.Wiring.{channel}

-- so many channels, each from where the one before leads to, lead from one block to another
abbrev pub LeadsBy : Graph → ℕ → ℕ → ℕ → Type 0
LeadsBy g zero a b = a ≡ b
LeadsBy g (suc n) a b =
    (c : ℕ) × (c < length g.channels) × ((channel g c).from_block ≡ a) × LeadsBy g n (channel g c).to_block b

-- some channels do, or none where both are one block
abbrev pub Reaches : Graph → ℕ → ℕ → Type 0
Reaches g a b = (n : ℕ) × LeadsBy g n a b

-- at least one does
abbrev pub Leads : Graph → ℕ → ℕ → Type 0
Leads g a b = (n : ℕ) × LeadsBy g (suc n) a b

-- a block from which channels lead back to it
abbrev pub OnCycle : Graph → ℕ → Type 0
OnCycle g b = Leads g b b

-- no block is on a cycle; or this one is, and none before it
abbrev pub FirstOnCycle : Graph → Option ℕ → Type 0
FirstOnCycle g None = (b : ℕ) → OnCycle g b → ⊥
FirstOnCycle g (Some b) = (b < length g.blocks) × OnCycle g b × ((a : ℕ) → a < b → OnCycle g a → ⊥)
