-- What a run of events does.
use Rattle.std.specs.Prelude.{◌≡◌, ℕ, List, Bool, take, Option}
use Rattle.sam_model.specs.Children.{Ranked}
use Rattle.block_core.specs.declared.BlockStep.{Ghosts}
use Rattle.graph.specs.declared.graphs.Graph.{Graph}
use Rattle.plays.specs.Net.{State, PlaysTo, can, turn, play}
use Rattle.plays.specs.Held.{Held}
use Rattle.stepper.specs.NetOf.{net_of, rooms_of}
use Rattle.stepper.specs.AtState.{AtState}
use Rattle.plays.specs.Told.{Tapped, Grew}

-- Wherever the machine stood, the play of the schedule leads to where it stands; a tap was given what was put.
abbrev pub Played : {B : Type 0} → Ghosts B → List ℕ
    → Held B → Tapped → Held B → Tapped → Type 0
Played step schedule m told m' told' =
    (storages : List Ranked) (g : Graph) (caps : List (Option ℕ)) (s : State) → AtState step storages g caps s m
    → AtState step storages g caps (play (net_of storages g) (rooms_of caps) s schedule) m'
    × Grew (net_of storages g) s (play (net_of storages g) (rooms_of caps) s schedule) told told'

-- the same of a beginning of the schedule
abbrev pub PartPlayed : {B : Type 0} → Ghosts B → List ℕ
    → Held B → Tapped → Held B → Tapped → Type 0
PartPlayed step schedule m told m' told' = (k : ℕ) × Played step (take k schedule) m told m' told'

-- one turn of a block, and whether it moved
abbrev pub Turned : {B : Type 0} → Ghosts B → ℕ → Bool
    → Held B → Tapped → Held B → Tapped → Type 0
Turned step b moved m told m' told' =
    (storages : List Ranked) (g : Graph) (caps : List (Option ℕ)) (s : State) → AtState step storages g caps s m
    → (can (net_of storages g) (rooms_of caps) s b ≡ moved)
    × AtState step storages g caps (turn (net_of storages g) (rooms_of caps) s b) m'
    × Grew (net_of storages g) s (turn (net_of storages g) (rooms_of caps) s b) told told'

-- Wherever the machine stood, events lead to where it stands; a tap was given what was put.
abbrev pub Onwards : {B : Type 0} → Ghosts B
    → Held B → Tapped → Held B → Tapped → Type 0
Onwards step m told m' told' =
    (storages : List Ranked) (g : Graph) (caps : List (Option ℕ)) (s : State) → AtState step storages g caps s m
    → (t : State)
    × PlaysTo (net_of storages g) (rooms_of caps) s t
    × AtState step storages g caps t m'
    × Grew (net_of storages g) s t told told'
