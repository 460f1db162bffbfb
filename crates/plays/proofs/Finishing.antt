-- Plays of a net that leads forwards finish where each channel has room for its whole stream.
use Rattle.std.specs.Prelude.{◌≡◌, ℕ, zero, suc, ◌<◌, true, List, [], ◌∷◌, ◌++◌, length, take, drop, slice_get, Option}
use Rattle.std.specs.Prelude.{Some, None}
use Rattle.std.proofs.Common.{arith, refl, sym, ◌∙◌, ap, length-append, inl, inr}
use Rattle.std.proofs.Math.Seq.{take-length}
use Rattle.std.proofs.lemmas.Bool.{cases_lt, lt-ltb, both_ways}
use Rattle.stream_tokens.specs.declared.Token.{Token}
use Rattle.block_core.specs.Move.{Move, Taking, Putting, takes, puts}
use Rattle.plays.specs.Net.{Net, Rooms, State, Wired, WithinBounds, Stuck, Finished, Reached, AtMost, Forwards}
use Rattle.plays.specs.Net.{WholeRoom, stream_on, sent, got, waiting, has_room, can_move, can, raise}
use Rattle.plays.proofs.Event.{sent_put}
use Rattle.plays.proofs.Waiting.{sent_whole, next_of_whole}
use Rattle.plays.proofs.Always.{always-kept}

-- where a block has made all its moves, all is put on its channels and all is taken from them
pub all_sent : (net : Net) (s : State) (c : ℕ) → s (net.sender c) ≡ length (net.moves (net.sender c)) → sent net s c ≡ stream_on net c
all_sent net s c e =
    ap (λ n. puts (net.sent_at c) (take n (net.moves (net.sender c)))) e ∙ ap (puts (net.sent_at c)) (take-length (net.moves (net.sender c)))

pub all_got : (net : Net) (s : State) (c : ℕ) → Wired net → c < net.channels → s (net.receiver c) ≡ length (net.moves (net.receiver c))
    → got net s c ≡ stream_on net c
all_got net s c w l e =
    ap (λ n. takes (net.received_at c) (take n (net.moves (net.receiver c)))) e
    ∙ ap (takes (net.received_at c)) (take-length (net.moves (net.receiver c))) ∙ sym (w.same c l)

-- before a put fewer tokens than the whole stream were put, and before a take fewer were taken
before_put : (net : Net) (s : State) (b p : ℕ) (t : Token) → Wired net → slice_get (net.moves b) (s b) ≡ Some (Putting p t)
    → length (sent net s (net.out_of b p)) < length (stream_on net (net.out_of b p))
before_put net s b p t w e =
    let c = net.out_of b p in
    let rest : List Token = puts (net.sent_at c) (drop (raise b s (net.sender c)) (net.moves (net.sender c))) in
    omega (
      arith,
      ap length (sent_put net s b p t w e),
      length-append (sent net s c) (t ∷ []),
      ap length (sent_whole net (raise b s) c),
      length-append (sent net (raise b s) c) rest,
    )

before_take : (net : Net) (s : State) (b p : ℕ) (t : Token) → Wired net → slice_get (net.moves b) (s b) ≡ Some (Taking p t)
    → length (got net s (net.into b p)) < length (stream_on net (net.into b p))
before_take net s b p t w e =
    let l : (rest : List Token) × (stream_on net (net.into b p) ≡ got net s (net.into b p) ++ t ∷ rest) = next_of_whole net s b p t w e in
    omega (arith, ap length l.1, length-append (got net s (net.into b p)) (t ∷ l.0))

room_within : (o : Option ℕ) (n m : ℕ) → AtMost (Some n) o → m < n → has_room o m ≡ true
room_within None n m a l = refl
room_within (Some room) n m a l = lt-ltb m room (omega (arith, a, l))

-- within the moves there is one
a_move : (ms : List Move) (n : ℕ) → n < length ms → slice_get ms n ≡ None → ⊥
a_move [] n l e = omega (arith, l)
a_move (m ∷ ms) zero l e = cc
a_move (m ∷ ms) (suc n) l e = a_move ms n (omega (arith, l)) e

-- a block with moves left has an event where all that send to it have made theirs
has_event : (net : Net) (rooms : Rooms) (s : State) (b : ℕ) → Wired net → WholeRoom net rooms
    → ((c : ℕ) → c < net.channels → net.receiver c ≡ b → s (net.sender c) ≡ length (net.moves (net.sender c)))
    → s b < length (net.moves b) → can net rooms s b ≡ true
has_event net rooms s b w room senders l = by_move (slice_get (net.moves b) (s b)) refl
  where
    by_move : (o : Option Move) → slice_get (net.moves b) (s b) ≡ o → can_move net rooms s b o ≡ true
    by_move None e = absurd (a_move (net.moves b) (s b) l e)
    by_move (Some (Taking p t)) e =
        let c = net.into b p in
        let at = w.taken b (s b) p t e in
        lt-ltb 0 (waiting net s c) (omega (arith, ap length (all_sent net s c (senders c at.2 at.0)), before_take net s b p t w e))
    by_move (Some (Putting p t)) e =
        let c = net.out_of b p in
        let at = w.put b (s b) p t e in
        room_within (rooms c) (length (stream_on net c)) (waiting net s c) (room c at.2) (omega (arith, before_put net s b p t w e))

-- the blocks of lower rank first
finished_below : (net : Net) (rooms : Rooms) (rank : ℕ → ℕ) (s : State) → Wired net → Forwards net rank → WholeRoom net rooms
    → WithinBounds net rooms s → Stuck net rooms s → (r b : ℕ) → rank b < r → b < net.blocks → s b ≡ length (net.moves b)
finished_below net rooms rank s w forwards room kept stuck zero b k l = absurd (omega (arith, k))
finished_below net rooms rank s w forwards room kept stuck (suc r) b k l = elim (cases_lt (s b) (length (net.moves b))) [
  | inr all ↦ omega (arith, all, kept.within b)
  | inl more ↦
      absurd (both_ways (can net rooms s b) (stuck b l) (has_event net rooms s b w room
      (λ c at e. finished_below net rooms rank s w forwards room kept stuck r (net.sender c)
      (omega (arith, k, forwards c at, ap rank e)) (w.came c at).1)
      more))
]

pub no-stall : (net : Net) (rooms : Rooms) (rank : ℕ → ℕ) (s : State) → Wired net → Forwards net rank → WholeRoom net rooms
    → Reached net rooms s → Stuck net rooms s → Finished net s
no-stall net rooms rank s w forwards room r stuck = λ b l.
    finished_below net rooms rank s w forwards room (always-kept net rooms s w r) stuck (suc (rank b)) b (omega arith) l
