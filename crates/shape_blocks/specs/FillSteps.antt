-- The states of a filler. Its ports of coordinates and payloads count from 0, up to the number of payloads.
use Rattle.std.specs.Prelude.{ℕ, ◌+◌, ◌-◌, ◌^◌, ◌≤◌, min, Bool, true, false, List, nat_lt, if◌then◌else◌, get_or, set, replicate}
use Rattle.stream_tokens.specs.declared.Token.{Token}
use Rattle.stream_tokens.specs.declared.Token.TheVariants.{Item, Empty, Stop, Done}
use Rattle.block_core.specs.declared.Wish.{Wish}
use Rattle.block_core.specs.declared.Wish.TheVariants.{Take, Put, Finished}
use Rattle.block_core.specs.Runs.{Steps}
use Rattle.shape_blocks.specs.declared.fill_state.Then.{Then}
use Rattle.shape_blocks.specs.declared.fill_state.Then.TheVariants.{Resume, Seek, End}
use Rattle.shape_blocks.specs.declared.fill_state.Stage.{Stage}
use Rattle.shape_blocks.specs.declared.fill_state.Stage.TheVariants.{Presence, Spreading, Seeking, Putting, Head, Draining, Ended}
use Rattle.shape_blocks.specs.declared.fill_state.FillState.{FillState}

abbrev pub stage_after : Then → Stage
stage_after (Resume more) = Presence more
stage_after Seek = Seeking 0
stage_after End = Ended

-- a stop first, where the presence had a token before
abbrev pub fill_opened : Bool → Then → Stage
fill_opened true follows = Spreading (Stop 0) 0 follows
fill_opened false follows = stage_after follows

-- the next port, or what follows after the last
abbrev pub onward : ℕ → ℕ → (ℕ → Stage) → Stage → Stage
onward last p go done = if nat_lt p last then go (p + 1) else done

abbrev pub new_state : ℕ → FillState
new_state payloads = record { payloads = payloads; stage = Presence false; row = replicate 9 Empty }

-- ---- what is wanted

abbrev pub fill_stage_wants : List Token → Stage → Wish
fill_stage_wants row (Presence more) = Take 0
fill_stage_wants row (Spreading t p follows) = Put p t
fill_stage_wants row (Seeking p) = Take (p + 1)
fill_stage_wants row (Putting p) = Put p (get_or row p Empty)
fill_stage_wants row (Head p) = Take (p + 1)
fill_stage_wants row (Draining p) = Take (p + 1)
fill_stage_wants row Ended = Finished

abbrev pub fill_wants : FillState → Wish
fill_wants s = fill_stage_wants s.row s.stage

-- ---- a token is taken

-- the stop above this one, as far as stops go
abbrev pub raised_level : ℕ → ℕ
raised_level n = min (n + 1) (2 ^ 8 - 1)

abbrev pub presence_took : Bool → Token → Stage
presence_took more (Item n) = fill_opened more Seek
presence_took more Empty = fill_opened more (Resume true)
presence_took more (Stop n) = Spreading (Stop (raised_level n)) 0 (Resume false)
presence_took more Done = Draining 0

abbrev pub seek_took : FillState → ℕ → Token → FillState
seek_took s p (Item x) = record s { stage = onward s.payloads p Seeking (Putting 0); row = set s.row p (Item x) }
seek_took s p Empty = s
seek_took s p (Stop n) = s
seek_took s p Done = s

-- a head begins with an item; where a stop stands there, the fiber ends
abbrev pub after_head : Token → Stage
after_head (Item c) = Putting 0
after_head Empty = Presence true
after_head (Stop n) = Presence true
after_head Done = Presence true

abbrev pub with_row : FillState → ℕ → List Token → FillState
with_row s p row = record s { stage = onward s.payloads p Head (after_head (get_or row 0 Empty)); row = row }

abbrev pub head_took : FillState → ℕ → Token → FillState
head_took s p t = with_row s p (set s.row p t)

abbrev pub draining_took : FillState → ℕ → Token → FillState
draining_took s p (Item x) = s
draining_took s p Empty = s
draining_took s p (Stop n) = s
draining_took s p Done = record s { stage = onward s.payloads p Draining (Spreading Done 0 End) }

abbrev pub fill_stage_took : FillState → Token → Stage → FillState
fill_stage_took s t (Presence more) = record s { stage = presence_took more t }
fill_stage_took s t (Spreading u p follows) = s
fill_stage_took s t (Seeking p) = seek_took s p t
fill_stage_took s t (Putting p) = s
fill_stage_took s t (Head p) = head_took s p t
fill_stage_took s t (Draining p) = draining_took s p t
fill_stage_took s t Ended = s

abbrev pub fill_took : FillState → Token → FillState
fill_took s t = fill_stage_took s t s.stage

-- ---- a token was put

abbrev pub fill_stage_put : ℕ → Stage → Stage
fill_stage_put payloads (Presence more) = Presence more
fill_stage_put payloads (Spreading t p follows) = onward payloads p (λ q. Spreading t q follows) (stage_after follows)
fill_stage_put payloads (Seeking p) = Seeking p
fill_stage_put payloads (Putting p) = onward payloads p Putting (Head 0)
fill_stage_put payloads (Head p) = Head p
fill_stage_put payloads (Draining p) = Draining p
fill_stage_put payloads Ended = Ended

abbrev pub fill_put : FillState → FillState
fill_put s = record s { stage = fill_stage_put s.payloads s.stage }

abbrev pub fill_steps : Steps FillState
fill_steps = record { wants = fill_wants; took = fill_took; put = fill_put }

-- ---- what every filler keeps

abbrev pub fill_port : Stage → ℕ
fill_port (Presence more) = 0
fill_port (Spreading t p follows) = p
fill_port (Seeking p) = p
fill_port (Putting p) = p
fill_port (Head p) = p
fill_port (Draining p) = p
fill_port Ended = 0

pub record IsFillState (s : FillState) : Type 0 where
  pub payloads : s.payloads ≤ 8
  pub port : fill_port s.stage ≤ s.payloads
