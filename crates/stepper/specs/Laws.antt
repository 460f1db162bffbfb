-- The laws of plays for graphs over stored tensors.
use Rattle.std.specs.Prelude.{◌≡◌, ℕ, ◌*◌, ◌<◌, ◌≤◌, List, ◌++◌, length, slice_range, Option, Some}
use Rattle.stream_tokens.specs.declared.Token.{Token}
use Rattle.sam_model.specs.Children.{Ranked}
use Rattle.graph.specs.declared.graphs.Graph.{Graph}
use Rattle.graph.specs.Wiring.{WellFormed}
use Rattle.graph.specs.WholeStreams.{whole_stream, Consistent}
use Rattle.plays.specs.Net.{State, Wired, Stuck, Finished, Reached, AtMost, NoMore, WithinLimit, Waits, sum_below, sent}
use Rattle.plays.specs.Net.{got, waiting}
use Rattle.stepper.specs.NetOf.{net_of, rooms_of}

-- The net of a well formed graph that the stored tensors fit is one to which the laws of plays apply.
abbrev pub GraphsAreWired : Type 0
GraphsAreWired = (storages : List Ranked) (g : Graph) → WellFormed g → Consistent storages g → Wired (net_of storages g)

-- What was put on a channel is a beginning of its whole stream, and so is what was taken, which is no more; and the channel
-- holds no more than its capacity.
pub record PartWay (storages : List Ranked) (g : Graph) (caps : List (Option ℕ)) (s : State) (c : ℕ) : Type 0 where
  pub put : (rest : List Token) × (sent (net_of storages g) s c ++ rest ≡ whole_stream storages g c)
  pub taken : (rest : List Token) × (got (net_of storages g) s c ++ rest ≡ whole_stream storages g c)
  pub order : length (got (net_of storages g) s c) ≤ length (sent (net_of storages g) s c)
  pub room : WithinLimit (rooms_of caps c) (waiting (net_of storages g) s c)

abbrev pub AlwaysPartWay : Type 0
AlwaysPartWay = (storages : List Ranked) (g : Graph) (caps : List (Option ℕ)) (s : State) → WellFormed g → Consistent storages g
    → Reached (net_of storages g) (rooms_of caps) s → (c : ℕ) → c < length g.channels → PartWay storages g caps s c

-- What waits on a channel is the part of its whole stream from the number taken up to the number put.
abbrev pub QueuesArePart : Type 0
QueuesArePart = (storages : List Ranked) (g : Graph) (s : State) (c : ℕ) (q : List Token) → WellFormed g → Consistent storages g
    → c < length g.channels → Waits (net_of storages g) s c q
    → q ≡ slice_range (whole_stream storages g c) (length (got (net_of storages g) s c)) (length (sent (net_of storages g) s c))

-- There is one state in which every play from the start that ends stuck ends.
abbrev pub OneStuckState : Type 0
OneStuckState = (storages : List Ranked) (g : Graph) (caps : List (Option ℕ)) → WellFormed g → Consistent storages g
    → (s : State) × Reached (net_of storages g) (rooms_of caps) s × Stuck (net_of storages g) (rooms_of caps) s
    × ((t : State) → Reached (net_of storages g) (rooms_of caps) t → Stuck (net_of storages g) (rooms_of caps) t → t ≡ s)

-- Where a play finishes, none that ends stuck under capacities at least as large is unfinished.
abbrev pub MoreRoomNeverHurts : Type 0
MoreRoomNeverHurts = (storages : List Ranked) (g : Graph) (low high : List (Option ℕ)) (s t : State) → WellFormed g → Consistent storages g
    → NoMore (rooms_of low) (rooms_of high)
    → Reached (net_of storages g) (rooms_of low) t → Finished (net_of storages g) t
    → Reached (net_of storages g) (rooms_of high) s → Stuck (net_of storages g) (rooms_of high) s → Finished (net_of storages g) s

-- Where each capacity is at least as large as its channel's stream is long, no unfinished state that a play reaches is stuck.
abbrev pub RoomSuffices : Type 0
RoomSuffices = (storages : List Ranked) (g : Graph) (caps : List (Option ℕ)) (s : State) → WellFormed g → Consistent storages g
    → ((c : ℕ) → c < length g.channels → AtMost (Some (length (whole_stream storages g c))) (rooms_of caps c))
    → Reached (net_of storages g) (rooms_of caps) s → Stuck (net_of storages g) (rooms_of caps) s → Finished (net_of storages g) s

-- A finished state has made twice as many moves as all whole streams are long together.
abbrev pub MoveCount : Type 0
MoveCount = (storages : List Ranked) (g : Graph) (s : State) → WellFormed g → Consistent storages g → Finished (net_of storages g) s
    → sum_below (length g.blocks) s ≡ 2 * sum_below (length g.channels) (λ c. length (whole_stream storages g c))

-- In a finished state the whole stream of each channel was put.
abbrev pub AllIsSent : Type 0
AllIsSent = (storages : List Ranked) (g : Graph) (s : State) → WellFormed g → Consistent storages g → Finished (net_of storages g) s
    → (c : ℕ) → c < length g.channels → sent (net_of storages g) s c ≡ whole_stream storages g c
