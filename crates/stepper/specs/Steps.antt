-- What one step does.
use Rattle.std.specs.Prelude.{◌≡◌, ℕ, List, Bool, true, false, cond, nat_lt, length, drop, slice_get, Option, Some}
use Rattle.std.specs.Prelude.{None, IsSome}
use Rattle.sam_model.specs.Children.{Ranked}
use Rattle.block_core.specs.declared.BlockStep.{Ghosts}
use Rattle.block_core.specs.declared.Wish.{Wish}
use Rattle.block_core.specs.Move.{Move, Taking, Putting, wish_of}
use Rattle.graph.specs.declared.graphs.Graph.{Graph}
use Rattle.graph.specs.Wiring.{out_of}
use Rattle.graph.specs.Standing.{block_moves}
use Rattle.plays.specs.Net.{Net, Rooms, State, waiting, has_room, can, raise}
use Rattle.plays.specs.Held.{Held}
use Rattle.stepper.specs.NetOf.{net_of, rooms_of}
use Rattle.stepper.specs.AtState.{AtState, Somewhere, Wherever}
use Rattle.plays.specs.Told.{Tapped, Grew}

-- the channel on which a move has to wait, and whether it waits for room there
abbrev pub hindrance_of : Net → Rooms → State → ℕ → Option Move → Option (ℕ × Bool)
hindrance_of net rooms s b None = None
hindrance_of net rooms s b (Some (Taking p t)) = cond (nat_lt 0 (waiting net s (net.into b p))) None (Some (net.into b p, false))
hindrance_of net rooms s b (Some (Putting p t)) =
    cond (has_room (rooms (net.out_of b p)) (waiting net s (net.out_of b p))) None (Some (net.out_of b p, true))

-- what a block's next move waits for, if there is one and it has to wait
abbrev pub hindrance : Net → Rooms → State → ℕ → Option (ℕ × Bool)
hindrance net rooms s b = hindrance_of net rooms s b (slice_get (net.moves b) (s b))

-- this is what the block would do next
abbrev pub Wishes : {B : Type 0} → Ghosts B → ℕ → Wish → Held B → Type 0
Wishes step b w m = Wherever step m (λ net rooms s. wish_of (drop (s b) (net.moves b)) ≡ w)

-- the block has a move, and waits on this channel, for room or for a token
abbrev pub WaitsOn : {B : Type 0} → Ghosts B → ℕ → ℕ → Bool → Held B → Type 0
WaitsOn step b c full m = Wherever step m (λ net rooms s. hindrance net rooms s b ≡ Some (c, full))

-- the block has made all its moves
abbrev pub HasEnded : {B : Type 0} → Ghosts B → ℕ → Held B → Type 0
HasEnded step b m = Wherever step m (λ net rooms s. s b ≡ length (net.moves b))

-- Wherever the machine stood, the event of this block was possible there, and the machine stands where it leads; a tap
-- was given what it put.
abbrev pub Moved : {B : Type 0} → Ghosts B → ℕ
    → Held B → Tapped → Held B → Tapped → Type 0
Moved step b m told m' told' =
    (storages : List Ranked) (g : Graph) (caps : List (Option ℕ)) (s : State) → AtState step storages g caps s m
    → (can (net_of storages g) (rooms_of caps) s b ≡ true)
    × AtState step storages g caps (raise b s) m'
    × Grew (net_of storages g) s (raise b s) told told'

-- the block never wants memory
abbrev pub NeverRefuses : {B : Type 0} → Ghosts B → ℕ → Held B → Type 0
NeverRefuses step b m = (x : _) → slice_get m.blocks b ≡ Some x → step.may_refuse x ≡ false

-- A move that takes no memory: a take by such a block, or a put on a channel with a limit that is told to such a tap.
abbrev pub IsInPlace : Rooms → (ℕ → ℕ) → Type 0 → Bool → Option Move → Type 0
IsInPlace rooms out_of block_never tap_may None = Unit {0}
IsInPlace rooms out_of block_never tap_may (Some (Taking p t)) = block_never
IsInPlace rooms out_of block_never tap_may (Some (Putting p t)) = IsSome (rooms (out_of p)) × (tap_may ≡ false)

-- at a state where the machine stands, the block's next move is one
abbrev pub InPlaceSomewhere : {B : Type 0} → Ghosts B → ℕ → Bool → Held B → Type 0
InPlaceSomewhere step b tap_may m =
    (storages : List Ranked) × (g : Graph) × (caps : List (Option ℕ)) × (s : State) × AtState step storages g caps s m
    × IsInPlace (rooms_of caps) (out_of g b) (NeverRefuses step b m) tap_may (slice_get (block_moves storages g b) (s b))

-- That the machine stands somewhere is its invariant, which a caller need not know.
abbrev pub MovesInPlace : {B : Type 0} → Ghosts B → ℕ → Bool → Held B → Type 0
MovesInPlace step b tap_may m = ∥ (Somewhere step m) ∥₁ → ∥ (InPlaceSomewhere step b tap_may m) ∥₁

-- as many blocks and queues, and the same routes
abbrev pub SameShape : {B : Type 0} → Held B → Held B → Type 0
SameShape m m' = (length m'.blocks ≡ length m.blocks) × (length m'.queues ≡ length m.queues) × (m'.routes ≡ m.routes)
