-- Where a machine stands.
use Rattle.std.specs.Prelude.{◌≡◌, ◌<◌, ℕ, ◌+◌, ◌-◌, ◌^◌, min, List, length, slice_get, get_or, Option, Some}
use Rattle.sam_model.specs.Children.{Ranked}
use Rattle.block_core.specs.declared.BlockStep.{Ghosts}
use Rattle.graph.specs.declared.graphs.Graph.{Graph}
use Rattle.graph.specs.Wiring.{block, WellFormed}
use Rattle.graph.specs.Order.{IsForwardOrder}
use Rattle.graph.specs.WholeStreams.{Consistent}
use Rattle.graph.specs.Standing.{StandAt, start_position}
use Rattle.plays.specs.Net.{Net, State, start, WithinBounds, Waits, sum_below}
use Rattle.plays.specs.Held.{Table, at_port, Routes, Queued, Held}
use Rattle.stepper.specs.NetOf.{net_of, rooms_of}

-- The table lists these channels at the ports of so many blocks.
pub record PortsListed (t : Table) (n : ℕ) (row : ℕ → List ℕ) : Type 0 where
  pub blocks : length t.first ≡ n
  pub within : (b p : ℕ) → b < n → p < length (row b) → get_or t.first b 0 + p < length t.channels
  pub same : (b p : ℕ) → b < n → p < length (row b) → at_port t b p ≡ get_or (row b) p 0

-- The routes are those of a graph, and blocks are visited in an order in which its channels lead forwards.
pub record Routed (g : Graph) (r : Routes) : Type 0 where
  pub few : length g.blocks < 2 ^ 32
  pub ins : PortsListed r.ins (length g.blocks) (λ b. (block g b).ins)
  pub outs : PortsListed r.outs (length g.blocks) (λ b. (block g b).outs)
  pub order : IsForwardOrder g r.order

-- what a queue holds was put on its channel and not taken yet, and its limit is the channel's
abbrev pub QueueOf : Net → (ℕ → Option ℕ) → State → ℕ → Queued → Type 0
QueueOf net rooms s c q = (q.room ≡ rooms c) × Waits net s c q.tokens

-- The machine stands at a state of a graph over stored tensors, under these capacities: each block has made as many moves
-- as the state says, what waits on a channel is what was put there and not taken, no queue is longer than its channel's
-- capacity, and the events are counted up to 2^64-1.
pub record AtState {B : Type 0} (step : Ghosts B)
    (storages : List Ranked) (g : Graph) (caps : List (Option ℕ)) (s : State) (m : Held B) : Type 0 where
  pub well_formed : WellFormed g
  pub consistent : Consistent storages g
  pub standing : StandAt step.kind step.stands storages g s m.blocks
  pub kept : WithinBounds (net_of storages g) (rooms_of caps) s
  pub queues_number : length m.queues ≡ length g.channels
  pub queues : (c : ℕ) (q : Queued) → slice_get m.queues c ≡ Some q → QueueOf (net_of storages g) (rooms_of caps) s c q
  pub counted : m.moves ≡ min (sum_below (length g.blocks) s) (2 ^ 64 - 1)
  pub routed : Routed g m.routes

-- at some state
abbrev pub Somewhere : {B : Type 0} → Ghosts B → Held B → Type 0
Somewhere step m =
    (storages : List Ranked) × (g : Graph) × (caps : List (Option ℕ)) × (s : State) × AtState step storages g caps s m

-- whatever the state at which the machine stands, this holds there
abbrev pub Wherever : {B : Type 0} → Ghosts B → Held B → (Net → (ℕ → Option ℕ) → State → Type 0) → Type 0
Wherever step m P =
    (storages : List Ranked) (g : Graph) (caps : List (Option ℕ)) (s : State)
    → AtState step storages g caps s m → P (net_of storages g) (rooms_of caps) s

-- for some stored tensors that fit the graph, these are its blocks before the first event
abbrev pub OwnBlocks : {B : Type 0} → Ghosts B → Graph → List B → Type 0
OwnBlocks step g blocks = ∥ ((storages : List Ranked) × Consistent storages g × StandAt step.kind step.stands storages g start_position blocks) ∥₁

-- for all such, the machine stands at the start
abbrev pub StartsFrom : {B : Type 0} → Ghosts B → Graph → List (Option ℕ) → List B → Held B → Type 0
StartsFrom step g caps blocks m =
    (storages : List Ranked) → Consistent storages g → StandAt step.kind step.stands storages g start_position blocks → AtState step storages g caps start m
