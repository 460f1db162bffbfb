-- What holds of each state that a play reaches.
use Rattle.std.specs.Prelude.{◌≡◌, ℕ, suc, ◌+◌, ◌<◌, ◌≤◌, Bool, true, false, cond, List, [], ◌∷◌, ◌++◌, length}
use Rattle.std.specs.Prelude.{slice_get, Option, Some, None}
use Rattle.std.proofs.Common.{arith, refl, sym, ◌∙◌, ap, subst, length-append, inl, inr}
use Rattle.std.proofs.lemmas.Bool.{cases_eq, cases_lt, ltb-true}
use Rattle.std.proofs.lemmas.Option.{slice_get_within}
use Rattle.stream_tokens.specs.declared.Token.{Token}
use Rattle.block_core.specs.Move.{Move, Taking, Putting}
use Rattle.plays.specs.Net.{Net, Rooms, State, Wired, WithinBounds, WithinLimit, Reached, PlaysTo, raise, sent, got}
use Rattle.plays.specs.Net.{waiting, has_room, can_move, can, turn, play, start}
use Rattle.plays.proofs.Event.{raise_here, raise_there, by_one, sent_put, sent_put_there, got_put, got_take}
use Rattle.plays.proofs.Event.{got_take_there, sent_take}

-- ---- turns and plays

pub turn_made : (net : Net) (rooms : Rooms) (s : State) (b : ℕ) → can net rooms s b ≡ true → turn net rooms s b ≡ raise b s
turn_made net rooms s b e = ap (λ (x : Bool). cond x (raise b s) s) e

pub turn_idle : (net : Net) (rooms : Rooms) (s : State) (b : ℕ) → can net rooms s b ≡ false → turn net rooms s b ≡ s
turn_idle net rooms s b e = ap (λ (x : Bool). cond x (raise b s) s) e

-- a schedule after another
pub play_append : (net : Net) (rooms : Rooms) (s : State) (xs ys : List ℕ) → play net rooms s (xs ++ ys) ≡ play net rooms (play net rooms s xs) ys
play_append net rooms s [] ys = refl
play_append net rooms s (b ∷ xs) ys = play_append net rooms (turn net rooms s b) xs ys

-- what each possible event keeps, a turn keeps, and so does a play
pub turn_keeps : (P : State → Type 0) (net : Net) (rooms : Rooms) → ((s : State) (b : ℕ) → P s → can net rooms s b ≡ true → P (raise b s))
    → (s : State) (b : ℕ) → P s → P (turn net rooms s b)
turn_keeps P net rooms event s b h = by_case (can net rooms s b) (event s b h)
  where
    by_case : (x : Bool) → (x ≡ true → P (raise b s)) → P (cond x (raise b s) s)
    by_case true made = made refl
    by_case false made = h

pub play_keeps : (P : State → Type 0) (net : Net) (rooms : Rooms) → ((s : State) (b : ℕ) → P s → can net rooms s b ≡ true → P (raise b s))
    → (s : State) (schedule : List ℕ) → P s → P (play net rooms s schedule)
play_keeps P net rooms event s [] h = h
play_keeps P net rooms event s (b ∷ bs) h = play_keeps P net rooms event (turn net rooms s b) bs (turn_keeps P net rooms event s b h)

pub reached_keeps : (P : State → Type 0) (net : Net) (rooms : Rooms) → ((s : State) (b : ℕ) → P s → can net rooms s b ≡ true → P (raise b s))
    → P start → (s : State) → Reached net rooms s → P s
reached_keeps P net rooms event first s r = subst P (sym r.1) (play_keeps P net rooms event start r.0 first)

pub start_reached : (net : Net) (rooms : Rooms) → Reached net rooms start
start_reached net rooms = ([], refl)

pub play_reached : (net : Net) (rooms : Rooms) (s : State) (schedule : List ℕ) → Reached net rooms s → Reached net rooms (play net rooms s schedule)
play_reached net rooms s schedule r =
    (r.0 ++ schedule, ap (λ (x : State). play net rooms x schedule) r.1 ∙ sym (play_append net rooms start r.0 schedule))

pub stays-reached : (net : Net) (rooms : Rooms) (s t : State) → Reached net rooms s → PlaysTo net rooms s t → Reached net rooms t
stays-reached net rooms s t r p = subst (Reached net rooms) (sym p.1) (play_reached net rooms s p.0 r)

pub event_reached : (net : Net) (rooms : Rooms) (s : State) (b : ℕ) → can net rooms s b ≡ true → Reached net rooms s → Reached net rooms (raise b s)
event_reached net rooms s b e r = subst (Reached net rooms) (turn_made net rooms s b e) (play_reached net rooms s (b ∷ []) r)

-- ---- a possible event

-- What makes an event possible: a token that waits, or room.
pub data Possible (net : Net) (rooms : Rooms) (s : State) (b : ℕ) : Type 0 where
  may_take : (p : ℕ) (t : Token) → slice_get (net.moves b) (s b) ≡ Some (Taking p t) → 0 < waiting net s (net.into b p) → Possible net rooms s b
  may_put : (p : ℕ) (t : Token) → slice_get (net.moves b) (s b) ≡ Some (Putting p t)
      → has_room (rooms (net.out_of b p)) (waiting net s (net.out_of b p)) ≡ true → Possible net rooms s b

pub possible : (net : Net) (rooms : Rooms) (s : State) (b : ℕ) → can net rooms s b ≡ true → Possible net rooms s b
possible net rooms s b = by_move (slice_get (net.moves b) (s b)) refl
  where
    by_move : (o : Option Move) → slice_get (net.moves b) (s b) ≡ o → can_move net rooms s b o ≡ true → Possible net rooms s b
    by_move None e h = absurd (cc)
    by_move (Some (Taking p t)) e h = may_take p t e (ltb-true _ _ h)
    by_move (Some (Putting p t)) e h = may_put p t e h

pub has_next : (net : Net) (rooms : Rooms) (s : State) (b : ℕ) → can net rooms s b ≡ true → s b < length (net.moves b)
has_next net rooms s b h = elim (possible net rooms s b h) [
  | may_take p t e _ ↦ slice_get_within (net.moves b) (s b) (Taking p t) e
  | may_put p t e _ ↦ slice_get_within (net.moves b) (s b) (Putting p t) e
]

-- only blocks of the net have events
pub in_net : (net : Net) (rooms : Rooms) (s : State) (b : ℕ) → Wired net → can net rooms s b ≡ true → b < net.blocks
in_net net rooms s b w h = elim (cases_lt b net.blocks) [
  | inl l ↦ l
  | inr past ↦
      (let none : length (net.moves b) ≡ 0 = ap length (w.none b past) in
      absurd (omega (arith, none, has_next net rooms s b h)))
]

-- ---- what is kept

fits_less : (o : Option ℕ) (n m : ℕ) → m ≤ n → WithinLimit o n → WithinLimit o m
fits_less None n m l h = tt
fits_less (Some room) n m l h = omega (arith, l, h)

fits_more : (o : Option ℕ) (n m : ℕ) → m ≡ suc n → has_room o n ≡ true → WithinLimit o m
fits_more None n m e h = tt
fits_more (Some room) n m e h = omega (arith, e, ltb-true n room h)

-- a channel holds no more than was put on it, and no more than it may
abbrev KeptAt : Net → Rooms → State → ℕ → Type 0
KeptAt net rooms s c = (length (got net s c) ≤ length (sent net s c)) × WithinLimit (rooms c) (waiting net s c)

kept_same : (net : Net) (rooms : Rooms) (s t : State) (c : ℕ) → sent net t c ≡ sent net s c → got net t c ≡ got net s c
    → KeptAt net rooms s c → KeptAt net rooms t c
kept_same net rooms s t c e f h =
    let a : length (sent net t c) ≡ length (sent net s c) = ap length e in
    let b : length (got net t c) ≡ length (got net s c) = ap length f in
    (omega (arith, a, b, h.0), fits_less (rooms c) (waiting net s c) (waiting net t c) (omega (arith, a, b)) h.1)

kept_take : (net : Net) (rooms : Rooms) (s : State) (b p : ℕ) (u : Token) (c : ℕ) → Wired net → slice_get (net.moves b) (s b) ≡ Some (Taking p u)
    → 0 < waiting net s (net.into b p) → c < net.channels → KeptAt net rooms s c → KeptAt net rooms (raise b s) c
kept_take net rooms s b p u c w e some l h = elim (cases_eq c (net.into b p)) [
  | inl at ↦
      (let put : length (sent net (raise b s) c) ≡ length (sent net s c) = ap length (sent_take net s b p u c e) in
      let taken : length (got net (raise b s) c) ≡ length (got net s c) + 1 =
      subst (λ x. length (got net (raise b s) x) ≡ length (got net s x) + 1) (sym at)
      (ap length (got_take net s b p u w e) ∙ length-append (got net s (net.into b p)) (u ∷ [])) in
      let more : 0 < waiting net s c = subst (λ x. 0 < waiting net s x) (sym at) some in
      (omega (arith, put, taken, more), fits_less (rooms c) (waiting net s c) (waiting net (raise b s) c) (omega (arith, put, taken)) h.1))
  | inr other ↦ kept_same net rooms s (raise b s) c (sent_take net s b p u c e) (got_take_there net s b p u c w e l other) h
]

kept_put : (net : Net) (rooms : Rooms) (s : State) (b p : ℕ) (u : Token) (c : ℕ) → Wired net → slice_get (net.moves b) (s b) ≡ Some (Putting p u)
    → has_room (rooms (net.out_of b p)) (waiting net s (net.out_of b p)) ≡ true → c < net.channels
    → KeptAt net rooms s c → KeptAt net rooms (raise b s) c
kept_put net rooms s b p u c w e room l h = elim (cases_eq c (net.out_of b p)) [
  | inl at ↦
      (let put : length (sent net (raise b s) c) ≡ length (sent net s c) + 1 =
      subst (λ x. length (sent net (raise b s) x) ≡ length (sent net s x) + 1) (sym at)
      (ap length (sent_put net s b p u w e) ∙ length-append (sent net s (net.out_of b p)) (u ∷ [])) in
      let taken : length (got net (raise b s) c) ≡ length (got net s c) = ap length (got_put net s b p u c e) in
      let free : has_room (rooms c) (waiting net s c) ≡ true = subst (λ x. has_room (rooms x) (waiting net s x) ≡ true) (sym at) room in
      (omega (arith, put, taken, h.0), fits_more (rooms c) (waiting net s c) (waiting net (raise b s) c) (omega (arith, put, taken, h.0)) free))
  | inr other ↦ kept_same net rooms s (raise b s) c (sent_put_there net s b p u c w e l other) (got_put net s b p u c e) h
]

kept_at : (net : Net) (rooms : Rooms) (s : State) (b c : ℕ) → Wired net → can net rooms s b ≡ true → c < net.channels
    → KeptAt net rooms s c → KeptAt net rooms (raise b s) c
kept_at net rooms s b c w h l k = elim (possible net rooms s b h) [
  | may_take p t e some ↦ kept_take net rooms s b p t c w e some l k
  | may_put p t e room ↦ kept_put net rooms s b p t c w e room l k
]

-- a possible event keeps what holds of reached states, and so do a turn and a play
pub event_kept : (net : Net) (rooms : Rooms) → Wired net → (s : State) (b : ℕ) → WithinBounds net rooms s → can net rooms s b ≡ true → WithinBounds net rooms (raise b s)
event_kept net rooms w s b k h =
    let at : (c : ℕ) → c < net.channels → KeptAt net rooms (raise b s) c = λ c l. kept_at net rooms s b c w h l (k.order c l, k.room c l) in
    record {
      within = by_one (λ x. raise b s x ≤ length (net.moves x)) b
          (omega (arith, raise_here b s, has_next net rooms s b h)) (λ x other. omega (arith, raise_there b s x other, k.within x));
      order = λ c l. (at c l).0;
      room = λ c l. (at c l).1;
    }

fits_none : (o : Option ℕ) → WithinLimit o 0
fits_none None = tt
fits_none (Some room) = omega arith

pub start_kept : (net : Net) (rooms : Rooms) → WithinBounds net rooms start
start_kept net rooms = record {
  within = λ b. omega arith;
  order = λ c l. omega arith;
  room = λ c l. fits_none (rooms c);
}

pub always-kept : (net : Net) (rooms : Rooms) (s : State) → Wired net → Reached net rooms s → WithinBounds net rooms s
always-kept net rooms s w r = reached_keeps (WithinBounds net rooms) net rooms (event_kept net rooms w) (start_kept net rooms) s r
