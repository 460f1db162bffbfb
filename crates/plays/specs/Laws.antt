-- The laws of plays.
use Rattle.std.specs.Prelude.{◌≡◌, ℕ, ◌+◌, ◌*◌, ◌<◌, ◌≤◌, length}
use Rattle.plays.specs.Net.{Net, Rooms, State, Wired, Stuck, Finished, Reached, PlaysTo, NoMore, WithinBounds, Forwards}
use Rattle.plays.specs.Net.{WholeRoom, Suffices, sum_below, sent, got, stream_on}

-- A stuck state is never passed under limits that are at most as large: no block makes more moves than there.
abbrev pub NeverPassed : Type 0
NeverPassed = (net : Net) (high low : Rooms) (s t : State) → Wired net → NoMore low high
    → Stuck net high s → Reached net low t → (b : ℕ) → t b ≤ s b

-- Two plays that end stuck end in the same state.
abbrev pub OneEnd : Type 0
OneEnd = (net : Net) (rooms : Rooms) (s t : State) → Wired net
    → Reached net rooms s → Stuck net rooms s → Reached net rooms t → Stuck net rooms t → s ≡ t

-- Some play ends stuck.
abbrev pub SomeEnd : Type 0
SomeEnd = (net : Net) (rooms : Rooms) → Wired net → (s : State) × Reached net rooms s × Stuck net rooms s

-- Where a play finishes, one that ends stuck under limits that are at least as large finishes too.
abbrev pub MoreRoom : Type 0
MoreRoom = (net : Net) (low high : Rooms) (s t : State) → Wired net → NoMore low high
    → Reached net low t → Finished net t → Reached net high s → Stuck net high s → Finished net s

-- What holds of each state that a play reaches.
abbrev pub AlwaysKept : Type 0
AlwaysKept = (net : Net) (rooms : Rooms) (s : State) → Wired net → Reached net rooms s → WithinBounds net rooms s

-- What events of a reached state lead to is reached.
abbrev pub StaysReached : Type 0
StaysReached = (net : Net) (rooms : Rooms) (s t : State) → Reached net rooms s → PlaysTo net rooms s t → Reached net rooms t

-- Where each channel has room for its whole stream and channels lead forwards, a stuck state is finished.
abbrev pub NoStall : Type 0
NoStall = (net : Net) (rooms : Rooms) (rank : ℕ → ℕ) (s : State) → Wired net → Forwards net rank → WholeRoom net rooms
    → Reached net rooms s → Stuck net rooms s → Finished net s

-- Each move is a put on one channel or a take from one.
abbrev pub EachCounts : Type 0
EachCounts = (net : Net) (s : State) → Wired net → ((b : ℕ) → b < net.blocks → s b ≤ length (net.moves b))
    → sum_below net.blocks s ≡ sum_below net.channels (λ c. length (sent net s c) + length (got net s c))

-- A finished state has made twice as many moves as all streams are long together.
abbrev pub TwiceEach : Type 0
TwiceEach = (net : Net) (s : State) → Wired net → Finished net s
    → sum_below net.blocks s ≡ 2 * sum_below net.channels (λ c. length (stream_on net c))

-- A larger limit on all channels suffices where a smaller one does.
abbrev pub LargerSuffices : Type 0
LargerSuffices = (net : Net) (low high : ℕ) → Wired net → low ≤ high → Suffices net low → Suffices net high
