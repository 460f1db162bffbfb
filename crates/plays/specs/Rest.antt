-- All of a machine but its blocks, as one block's burst sees it.
use Rattle.std.specs.Prelude.{◌≡◌, ◌<◌, ℕ, ◌+◌, ◌-◌, ◌^◌, min, List, [], ◌∷◌, ◌++◌, Bool, length, take, drop, set}
use Rattle.std.specs.Prelude.{slice_get, get_or, Option, Some, None}
use Rattle.stream_tokens.specs.declared.Token.{Token}
use Rattle.block_core.specs.declared.BlockStep.{Ghosts}
use Rattle.block_core.specs.Move.{Move, Taking, Putting}
use Rattle.block_core.specs.Ports.{Streams}
use Rattle.block_core.specs.Kind.{moves}
use Rattle.block_core.specs.Bursts.{Poured, relayed}
use Rattle.plays.specs.Net.{Net, Rooms, State, Wired, WithinBounds, Waits, PlaysTo, sum_below}
use Rattle.plays.specs.Held.{Queued}
use Rattle.plays.specs.Told.{Tapped, HasLists, Grew}

-- what waits on each channel, what a tap was told, the number of events, and of one block its number and the channels at
-- its inputs and at its outputs
pub record BlockEnds : Type 0 where
  pub queues : List Queued
  pub told : Tapped
  pub moves : ℕ
  pub block : ℕ
  pub ins : List ℕ
  pub outs : List ℕ

abbrev pub ends_at : List Queued → Tapped → ℕ → ℕ → List ℕ → List ℕ → BlockEnds
ends_at queues told moves block ins outs =
    record { queues = queues; told = told; moves = moves; block = block; ins = ins; outs = outs }

-- the same ends with other queues, told so far and number of events
abbrev pub refilled : BlockEnds → List Queued → Tapped → ℕ → BlockEnds
refilled e queues told moves = ends_at queues told moves e.block e.ins e.outs

abbrev pub no_queue : Queued
no_queue = record { tokens = []; room = None }

-- the queue at an input, and the token that waits first there
abbrev pub in_queue : BlockEnds → ℕ → Queued
in_queue e p = get_or e.queues (get_or e.ins p 0) no_queue

abbrev pub waits_at : BlockEnds → ℕ → List Token
waits_at e p = (in_queue e p).tokens

abbrev pub first_at : BlockEnds → ℕ → Option Token
first_at e p = slice_get (waits_at e p) 0

-- All but the blocks stands at a state of a net.
pub record RestAt (net : Net) (rooms : Rooms) (s : State) (e : BlockEnds) : Type 0 where
  pub wired : Wired net
  pub kept : WithinBounds net rooms s
  pub queues_number : length e.queues ≡ net.channels
  pub queues : (c : ℕ) (q : Queued) → slice_get e.queues c ≡ Some q → (q.room ≡ rooms c) × Waits net s c q.tokens
  pub counted : e.moves ≡ min (sum_below net.blocks s) (2 ^ 64 - 1)
  pub lists : HasLists (length e.queues) e.told
  pub ins : (n p : ℕ) (t : Token) → slice_get (net.moves e.block) n ≡ Some (Taking p t) → (p < length e.ins) × (get_or e.ins p 0 ≡ net.into e.block p)
  pub outs : (n p : ℕ) (t : Token) → slice_get (net.moves e.block) n ≡ Some (Putting p t) → (p < length e.outs) × (get_or e.outs p 0 ≡ net.out_of e.block p)
  pub apart : (n m p q : ℕ) (t u : Token) → slice_get (net.moves e.block) n ≡ Some (Taking p t) → slice_get (net.moves e.block) m ≡ Some (Putting q u)
      → net.into e.block p ≡ net.out_of e.block q → ⊥

-- somewhere, where the block has these moves before it
abbrev pub FedAt : BlockEnds → List Move → Type 0
FedAt e ms = (net : Net) × (rooms : Rooms) × (s : State) × RestAt net rooms s e × (drop (s e.block) (net.moves e.block) ≡ ms)

-- the state after so many moves of one block
pub record AfterMoves (net : Net) (rooms : Rooms) (s : State) (b k : ℕ) (t : State) : Type 0 where
  pub leads : PlaysTo net rooms s t
  pub here : t b ≡ s b + k
  pub there : (d : ℕ) → (d ≡ b → ⊥) → t d ≡ s d

-- Wherever it stood with these moves before the block, it stands where they lead.
abbrev pub Advances : BlockEnds → List Move → BlockEnds → Type 0
Advances e ms e' =
    (net : Net) (rooms : Rooms) (s : State) (rest : List Move) → RestAt net rooms s e → drop (s e.block) (net.moves e.block) ≡ ms ++ rest
    → (t : State) × AfterMoves net rooms s e.block (length ms) t × RestAt net rooms t e' × Grew net s t e.told e'.told

-- the same block, with as many queues, and a tap with as many lists
pub record SameEnds (e e' : BlockEnds) : Type 0 where
  pub block : e'.block ≡ e.block
  pub ins : e'.ins ≡ e.ins
  pub outs : e'.outs ≡ e.outs
  pub number : length e'.queues ≡ length e.queues
  pub lists : HasLists (length e.queues) e.told → HasLists (length e'.queues) e'.told

-- The block made just these moves.
pub record MadeAt (e : BlockEnds) (ms : List Move) (e' : BlockEnds) : Type 0 where
  pub block : e'.block ≡ e.block
  pub ins : e'.ins ≡ e.ins
  pub outs : e'.outs ≡ e.outs
  pub number : length e'.queues ≡ length e.queues
  pub lists : HasLists (length e.queues) e.told → HasLists (length e'.queues) e'.told
  pub advances : Advances e ms e'

-- One of many blocks made some moves.
abbrev pub BurstAt : {B : Type 0} → Ghosts B → List B → BlockEnds → List B → BlockEnds → Bool → Type 0
BurstAt step blocks e blocks' e' went =
    (x : _) → slice_get blocks e.block ≡ Some x → (y : _) × (blocks' ≡ set blocks e.block y) × (step.kind y ≡ step.kind x) × Poured step.kind step.stands FedAt MadeAt x e y e' went

abbrev pub MayBurst : {B : Type 0} → Ghosts B → List B → BlockEnds → Type 0
MayBurst step blocks e =
    ∥ ((x : _) × (slice_get blocks e.block ≡ Some x) × (s : Streams) × (n : ℕ) × step.stands x s n × FedAt e (drop n (moves (step.kind x) s))) ∥₁

-- the block next takes from one port and puts this token on another
abbrev pub MayRelayOne : BlockEnds → ℕ → ℕ → Token → Type 0
MayRelayOne e p q t = ∥ ((u : Token) × (rest : List Move) × FedAt e (Taking p u ∷ Putting q t ∷ rest)) ∥₁

-- as many as i of these were relayed
pub record RelayedTo (e : BlockEnds) (from to : ℕ) (us : List Token) (i : ℕ) (f : BlockEnds) : Type 0 where
  pub made : MadeAt e (relayed from to (take i (waits_at e from)) (take i us)) f
  pub left : waits_at f from ≡ drop i (waits_at e from)
