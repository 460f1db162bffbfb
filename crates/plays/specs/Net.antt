-- A net of blocks and channels, its states, its events and its plays.
use Rattle.std.specs.Prelude.{◌≡◌, ℕ, zero, suc, ◌+◌, ◌-◌, ◌<◌, ◌≤◌, Bool, true, false, cond, eqb, nat_lt, List, []}
use Rattle.std.specs.Prelude.{◌∷◌, ◌++◌, length, take, slice_get, slice_range, Option, Some, None}
use Rattle.stream_tokens.specs.declared.Token.{Token}
use Rattle.block_core.specs.Move.{Move, Taking, Putting, takes, puts}

-- Blocks and channels by number: the moves of each block on its whole inputs, the channel at each of its ports, and the
-- block and port at each end of a channel.
pub record Net : Type 0 where
  pub blocks : ℕ
  pub channels : ℕ
  pub moves : ℕ → List Move
  pub into : ℕ → ℕ → ℕ
  pub out_of : ℕ → ℕ → ℕ
  pub sender : ℕ → ℕ
  pub sent_at : ℕ → ℕ
  pub receiver : ℕ → ℕ
  pub received_at : ℕ → ℕ

-- how many tokens a channel may hold, if there is a limit
abbrev pub Rooms : Type 0
Rooms = ℕ → Option ℕ

-- how many moves each block has made
abbrev pub State : Type 0
State = ℕ → ℕ

-- all that is sent on a channel
abbrev pub stream_on : Net → ℕ → List Token
stream_on net c = puts (net.sent_at c) (net.moves (net.sender c))

-- the tokens put on a channel, and those taken from it, in order
abbrev pub sent : Net → State → ℕ → List Token
sent net s c = puts (net.sent_at c) (take (s (net.sender c)) (net.moves (net.sender c)))

abbrev pub got : Net → State → ℕ → List Token
got net s c = takes (net.received_at c) (take (s (net.receiver c)) (net.moves (net.receiver c)))

-- how many tokens wait on a channel, and which
abbrev pub waiting : Net → State → ℕ → ℕ
waiting net s c = length (sent net s c) - length (got net s c)

abbrev pub queue : Net → State → ℕ → List Token
queue net s c = slice_range (stream_on net c) (length (got net s c)) (length (sent net s c))

abbrev pub has_room : Option ℕ → ℕ → Bool
has_room None n = true
has_room (Some room) n = nat_lt n room

-- a move is possible: a take from a channel on which something waits, or a put on one that has room
abbrev pub can_move : Net → Rooms → State → ℕ → Option Move → Bool
can_move net rooms s b None = false
can_move net rooms s b (Some (Taking p t)) = nat_lt 0 (waiting net s (net.into b p))
can_move net rooms s b (Some (Putting p t)) = has_room (rooms (net.out_of b p)) (waiting net s (net.out_of b p))

-- a block has a possible event
abbrev pub can : Net → Rooms → State → ℕ → Bool
can net rooms s b = can_move net rooms s b (slice_get (net.moves b) (s b))

-- one more move of a block
abbrev pub raise : ℕ → State → State
raise b s = λ x. cond (eqb x b) (suc (s x)) (s x)

-- the event of a block where it is possible
abbrev pub turn : Net → Rooms → State → ℕ → State
turn net rooms s b = cond (can net rooms s b) (raise b s) s

-- the state that a schedule leads to
abbrev pub play : Net → Rooms → State → List ℕ → State
play net rooms s [] = s
play net rooms s (b ∷ bs) = play net rooms (turn net rooms s b) bs

abbrev pub start : State
start = λ b. 0

-- no block has a possible event
abbrev pub Stuck : Net → Rooms → State → Type 0
Stuck net rooms s = (b : ℕ) → b < net.blocks → can net rooms s b ≡ false

-- every block has made all its moves
abbrev pub Finished : Net → State → Type 0
Finished net s = (b : ℕ) → b < net.blocks → s b ≡ length (net.moves b)

-- events of the first state lead to the second
abbrev pub PlaysTo : Net → Rooms → State → State → Type 0
PlaysTo net rooms s t = (schedule : List ℕ) × (t ≡ play net rooms s schedule)

-- A play from the start reaches this state.
abbrev pub Reached : Net → Rooms → State → Type 0
Reached net rooms s = (schedule : List ℕ) × (s ≡ play net rooms start schedule)

-- one limit is at most another; no limit is the most
abbrev pub AtMost : Option ℕ → Option ℕ → Type 0
AtMost (Some n) (Some m) = n ≤ m
AtMost (Some n) None = Unit {0}
AtMost None None = Unit {0}
AtMost None (Some m) = ⊥

abbrev pub NoMore : Rooms → Rooms → Type 0
NoMore low high = (c : ℕ) → AtMost (low c) (high c)

-- What holds of the net of a well formed graph: the channel at the port of each move names it back, each channel is the
-- one at both ports that it names, and what is put on it is what is taken from it.
pub record Wired (net : Net) : Type 0 where
  pub none : (b : ℕ) → net.blocks ≤ b → net.moves b ≡ []
  pub taken : (b n p : ℕ) (t : Token) → slice_get (net.moves b) n ≡ Some (Taking p t)
      → (net.receiver (net.into b p) ≡ b) × (net.received_at (net.into b p) ≡ p) × (net.into b p < net.channels)
  pub put : (b n p : ℕ) (t : Token) → slice_get (net.moves b) n ≡ Some (Putting p t)
      → (net.sender (net.out_of b p) ≡ b) × (net.sent_at (net.out_of b p) ≡ p) × (net.out_of b p < net.channels)
  pub received : (c : ℕ) → c < net.channels → (net.into (net.receiver c) (net.received_at c) ≡ c) × (net.receiver c < net.blocks)
  pub came : (c : ℕ) → c < net.channels → (net.out_of (net.sender c) (net.sent_at c) ≡ c) × (net.sender c < net.blocks)
  pub same : (c : ℕ) → c < net.channels
      → puts (net.sent_at c) (net.moves (net.sender c)) ≡ takes (net.received_at c) (net.moves (net.receiver c))

-- A channel never holds more than its limit.
abbrev pub WithinLimit : Option ℕ → ℕ → Type 0
WithinLimit None n = Unit {0}
WithinLimit (Some room) n = n ≤ room

-- What holds of each state that a play reaches.
pub record WithinBounds (net : Net) (rooms : Rooms) (s : State) : Type 0 where
  pub within : (b : ℕ) → s b ≤ length (net.moves b)
  pub order : (c : ℕ) → c < net.channels → length (got net s c) ≤ length (sent net s c)
  pub room : (c : ℕ) → c < net.channels → WithinLimit (rooms c) (waiting net s c)

-- the sum of f at the numbers below n
abbrev pub sum_below : ℕ → (ℕ → ℕ) → ℕ
sum_below zero f = 0
sum_below (suc n) f = sum_below n f + f n

-- each channel leads from a block of lower rank to one of higher rank
abbrev pub Forwards : Net → (ℕ → ℕ) → Type 0
Forwards net rank = (c : ℕ) → c < net.channels → rank (net.sender c) < rank (net.receiver c)

-- each limit lets a channel's whole stream in
abbrev pub WholeRoom : Net → Rooms → Type 0
WholeRoom net rooms = (c : ℕ) → c < net.channels → AtMost (Some (length (stream_on net c))) (rooms c)

-- the same limit on each channel
abbrev pub all_channels : ℕ → Rooms
all_channels n = λ c. Some n

-- A limit suffices when plays that end stuck, with it on every channel, end finished.
abbrev pub Suffices : Net → ℕ → Type 0
Suffices net n = (s : State) → Reached net (all_channels n) s → Stuck net (all_channels n) s → Finished net s

-- what was put is what was taken, and then what waits
abbrev pub Waits : Net → State → ℕ → List Token → Type 0
Waits net s c q = sent net s c ≡ got net s c ++ q
