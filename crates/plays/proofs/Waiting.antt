-- The tokens that wait on a channel.
use Rattle.std.specs.Prelude.{◌≡◌, ℕ, suc, ◌-◌, ◌<◌, List, [], ◌∷◌, ◌++◌, length, take, drop, slice_get, slice_range}
use Rattle.std.specs.Prelude.{nat_lt, Some}
use Rattle.std.proofs.Common.{arith, refl, sym, ◌∙◌, ap, subst, append_assoc, length-append}
use Rattle.std.proofs.Math.Seq.{take-append_seam, drop-append_seam}
use Rattle.std.proofs.lemmas.List.{append_cancel_left}
use Rattle.stream_tokens.specs.declared.Token.{Token}
use Rattle.block_core.specs.Move.{Move, Taking, Putting, takes, puts}
use Rattle.block_core.proofs.Standing.{drop-at}
use Rattle.plays.specs.Net.{Net, Rooms, State, Wired, raise, sent, got, waiting, queue, has_room, can_move, can, Waits, start, stream_on}
use Rattle.plays.proofs.Moves.{takes-append, takes_here, takes_split, puts_split}
use Rattle.plays.proofs.Event.{sent_put, sent_put_there, got_put, got_take, got_take_there, sent_take}

-- what was put is a beginning of the whole stream, and what was taken one of what the other end takes
pub sent_whole : (net : Net) (s : State) (c : ℕ)
    → sent net s c ++ puts (net.sent_at c) (drop (s (net.sender c)) (net.moves (net.sender c))) ≡ stream_on net c
sent_whole net s c = puts_split (net.sent_at c) (s (net.sender c)) (net.moves (net.sender c))

pub got_whole : (net : Net) (s : State) (c : ℕ) → Wired net → c < net.channels
    → got net s c ++ takes (net.received_at c) (drop (s (net.receiver c)) (net.moves (net.receiver c))) ≡ stream_on net c
got_whole net s c w l = takes_split (net.received_at c) (s (net.receiver c)) (net.moves (net.receiver c)) ∙ sym (w.same c l)

-- as many wait as the list has
pub waits_length : (net : Net) (s : State) (c : ℕ) (q : List Token) → Waits net s c q → waiting net s c ≡ length q
waits_length net s c q h = omega (arith, ap length h ∙ length-append (got net s c) q)

middle : (a q rest : List Token) → slice_range ((a ++ q) ++ rest) (length a) (length (a ++ q)) ≡ q
middle a q rest =
    let n : length (a ++ q) - length a ≡ length q = omega (arith, length-append a q) in
    ap (λ (z : List Token). take (length (a ++ q) - length a) (drop (length a) z)) (append_assoc a q rest)
    ∙ ap (take (length (a ++ q) - length a)) (drop-append_seam a (q ++ rest))
    ∙ ap (λ k. take k (q ++ rest)) n ∙ take-append_seam q rest

-- what waits is what the counts leave of the whole stream
pub waits_queue : (net : Net) (s : State) (c : ℕ) (q : List Token) → Waits net s c q → q ≡ queue net s c
waits_queue net s c q h =
    let rest = puts (net.sent_at c) (drop (s (net.sender c)) (net.moves (net.sender c))) in
    sym (middle (got net s c) q rest)
    ∙ ap (λ (z : List Token). slice_range (z ++ rest) (length (got net s c)) (length z)) (sym h)
    ∙ ap (λ (z : List Token). slice_range z (length (got net s c)) (length (sent net s c))) (sent_whole net s c)

-- before all events nothing waits
pub waits_start : (net : Net) (c : ℕ) → Waits net start c []
waits_start net c = refl

-- a put lengthens the queue of its channel, and a take shortens that of its own
pub waits_put : (net : Net) (s : State) (b p : ℕ) (t : Token) (q : List Token) → Wired net → slice_get (net.moves b) (s b) ≡ Some (Putting p t)
    → Waits net s (net.out_of b p) q → Waits net (raise b s) (net.out_of b p) (q ++ t ∷ [])
waits_put net s b p t q w e h =
    let c = net.out_of b p in
    sent_put net s b p t w e ∙ ap (λ (z : List Token). z ++ t ∷ []) h ∙ append_assoc (got net s c) q (t ∷ [])
    ∙ ap (λ (z : List Token). z ++ (q ++ t ∷ [])) (sym (got_put net s b p t c e))

pub waits_put_there : (net : Net) (s : State) (b p : ℕ) (t : Token) (c : ℕ) (q : List Token) → Wired net → slice_get (net.moves b) (s b) ≡ Some (Putting p t)
    → c < net.channels → (c ≡ net.out_of b p → ⊥) → Waits net s c q → Waits net (raise b s) c q
waits_put_there net s b p t c q w e l other h =
    sent_put_there net s b p t c w e l other ∙ h ∙ ap (λ (z : List Token). z ++ q) (sym (got_put net s b p t c e))

pub waits_take : (net : Net) (s : State) (b p : ℕ) (t : Token) (q : List Token) → Wired net → slice_get (net.moves b) (s b) ≡ Some (Taking p t)
    → Waits net s (net.into b p) (t ∷ q) → Waits net (raise b s) (net.into b p) q
waits_take net s b p t q w e h =
    let c = net.into b p in
    sent_take net s b p t c e ∙ h ∙ sym (append_assoc (got net s c) (t ∷ []) q)
    ∙ ap (λ (z : List Token). z ++ q) (sym (got_take net s b p t w e))

pub waits_take_there : (net : Net) (s : State) (b p : ℕ) (t : Token) (c : ℕ) (q : List Token) → Wired net → slice_get (net.moves b) (s b) ≡ Some (Taking p t)
    → c < net.channels → (c ≡ net.into b p → ⊥) → Waits net s c q → Waits net (raise b s) c q
waits_take_there net s b p t c q w e l other h =
    sent_take net s b p t c e ∙ h ∙ ap (λ (z : List Token). z ++ q) (sym (got_take_there net s b p t c w e l other))

-- what the block's next move takes from the whole stream, and what comes after that
pub next_of_whole : (net : Net) (s : State) (b p : ℕ) (u : Token) → Wired net → slice_get (net.moves b) (s b) ≡ Some (Taking p u)
    → (rest : List Token) × (stream_on net (net.into b p) ≡ got net s (net.into b p) ++ u ∷ rest)
next_of_whole net s b p u w e =
    let c = net.into b p in
    let at : (net.receiver c ≡ b) × (net.received_at c ≡ p) × (c < net.channels) = w.taken b (s b) p u e in
    let ms : List Move = net.moves (net.receiver c) in
    let n : ℕ = s (net.receiver c) in
    let after : List Move = drop (suc n) ms in
    let next : slice_get ms n ≡ Some (Taking p u) = subst (λ x. slice_get (net.moves x) (s x) ≡ Some (Taking p u)) (sym at.0) e in
    let token : takes (net.received_at c) (Taking p u ∷ []) ≡ u ∷ [] = ap (λ q. takes q (Taking p u ∷ [])) at.1 ∙ takes_here p u in (
      takes (net.received_at c) after,
      sym (got_whole net s c w at.2)
          ∙ ap (λ (z : List Move). got net s c ++ takes (net.received_at c) z) (drop-at ms n (Taking p u) next)
          ∙ ap (λ (z : List Token). got net s c ++ z) (takes-append (net.received_at c) (Taking p u ∷ []) after)
          ∙ ap (λ (z : List Token). got net s c ++ (z ++ takes (net.received_at c) after)) token,
    )

-- the front of what waits is the token that the receiver takes next
pub front_next : (net : Net) (s : State) (b p : ℕ) (u t : Token) (q : List Token) → Wired net → slice_get (net.moves b) (s b) ≡ Some (Taking p u)
    → Waits net s (net.into b p) (t ∷ q) → t ≡ u
front_next net s b p u t q w e h =
    let c = net.into b p in
    let rest : List Token = puts (net.sent_at c) (drop (s (net.sender c)) (net.moves (net.sender c))) in
    let l : (rest : List Token) × (stream_on net c ≡ got net s c ++ u ∷ rest) = next_of_whole net s b p u w e in
    let one : got net s c ++ (t ∷ q ++ rest) ≡ got net s c ++ u ∷ l.0 =
    sym (append_assoc (got net s c) (t ∷ q) rest) ∙ ap (λ (z : List Token). z ++ rest) (sym h) ∙ sent_whole net s c ∙ l.1 in
    let same : t ∷ q ++ rest ≡ u ∷ l.0 = append_cancel_left (got net s c) _ _ one in
    cc

-- a block may take where the list has a token, and put where the channel has room for one more
pub can_take : (net : Net) (rooms : Rooms) (s : State) (b p : ℕ) (u : Token) (q : List Token) → slice_get (net.moves b) (s b) ≡ Some (Taking p u)
    → Waits net s (net.into b p) q → can net rooms s b ≡ nat_lt 0 (length q)
can_take net rooms s b p u q e h = ap (can_move net rooms s b) e ∙ ap (nat_lt 0) (waits_length net s (net.into b p) q h)

pub can_put : (net : Net) (rooms : Rooms) (s : State) (b p : ℕ) (t : Token) (q : List Token) → slice_get (net.moves b) (s b) ≡ Some (Putting p t)
    → Waits net s (net.out_of b p) q → can net rooms s b ≡ has_room (rooms (net.out_of b p)) (length q)
can_put net rooms s b p t q e h = ap (can_move net rooms s b) e ∙ ap (has_room (rooms (net.out_of b p))) (waits_length net s (net.out_of b p) q h)
