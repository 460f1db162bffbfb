-- A burst of one block.
use Rattle.std.specs.Prelude.{◌≡◌, ◌<◌, ◌≤◌, ℕ, Bool, true, List, length, drop, get_or, Option}
use Rattle.sam_model.specs.Children.{Ranked}
use Rattle.block_core.specs.declared.BlockStep.{Ghosts}
use Rattle.graph.specs.declared.graphs.Graph.{Graph}
use Rattle.plays.specs.Net.{State, PlaysTo, sum_below}
use Rattle.plays.specs.Held.{Table, Held}
use Rattle.plays.specs.Told.{Tapped, Grew}
use Rattle.plays.specs.Rest.{ends_at, BlockEnds}
use Rattle.stepper.specs.NetOf.{net_of, rooms_of}
use Rattle.stepper.specs.AtState.{AtState}

-- the row of a block, and a machine as one block's burst sees it
abbrev pub row_of : Table → ℕ → List ℕ
row_of t b = drop (get_or t.first b 0) t.channels

abbrev pub block_ends : {B : Type 0} → Held B → Tapped → ℕ → BlockEnds
block_ends m told b = ends_at m.queues told m.moves b (row_of m.routes.ins b) (row_of m.routes.outs b)

-- Wherever the machine stood, events lead to where it stands, at least one where the flag says so; a tap was given what was put.
abbrev pub OnwardsBy : {B : Type 0} → Ghosts B
    → Held B → Tapped → Held B → Tapped → Bool → Type 0
OnwardsBy step m told m' told' went =
    (storages : List Ranked) (g : Graph) (caps : List (Option ℕ)) (s : State) → AtState step storages g caps s m
    → (t : State) × PlaysTo (net_of storages g) (rooms_of caps) s t × AtState step storages g caps t m' × Grew (net_of storages g) s t told told'
    × (sum_below (length g.blocks) s ≤ sum_below (length g.blocks) t) × (went ≡ true → sum_below (length g.blocks) s < sum_below (length g.blocks) t)

-- somewhere, after at least so many events
abbrev pub SomewhereFar : {B : Type 0} → Ghosts B → Held B → ℕ → Type 0
SomewhereFar step m n =
    (storages : List Ranked) × (g : Graph) × (caps : List (Option ℕ)) × (s : State)
    × AtState step storages g caps s m × (n ≤ sum_below (length g.blocks) s)
