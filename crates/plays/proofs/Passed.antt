-- A stuck state is never passed.
use Rattle.std.specs.Prelude.{◌≡◌, ℕ, ◌≤◌, true, length, slice_get, Option, Some, None}
use Rattle.std.proofs.Common.{arith, refl, sym, ◌∙◌, ap, subst, inl, inr}
use Rattle.std.proofs.lemmas.Bool.{cases_lt, ltb-true, lt-ltb, both_ways}
use Rattle.plays.specs.Net.{Net, Rooms, State, Wired, Stuck, Reached, AtMost, NoMore, raise, sent, got, waiting}
use Rattle.plays.specs.Net.{has_room, can_move, can}
use Rattle.plays.proofs.Moves.{takes_longer, puts_longer}
use Rattle.plays.proofs.Event.{raise_here, raise_there, by_one}
use Rattle.plays.proofs.Always.{Possible, may_take, may_put, possible, in_net, reached_keeps}

-- where a block has made no more moves, a channel has no more tokens
pub sent_monotone : (net : Net) (t s : State) (c : ℕ) → t (net.sender c) ≤ s (net.sender c) → length (sent net t c) ≤ length (sent net s c)
sent_monotone net t s c l = puts_longer (net.sent_at c) (net.moves (net.sender c)) (t (net.sender c)) (s (net.sender c)) l

pub got_monotone : (net : Net) (t s : State) (c : ℕ) → t (net.receiver c) ≤ s (net.receiver c) → length (got net t c) ≤ length (got net s c)
got_monotone net t s c l = takes_longer (net.received_at c) (net.moves (net.receiver c)) (t (net.receiver c)) (s (net.receiver c)) l

room_for_more : (low high : Option ℕ) (n m : ℕ) → AtMost low high → m ≤ n → has_room low n ≡ true → has_room high m ≡ true
room_for_more None None n m a l h = refl
room_for_more None (Some y) n m a l h = absurd a
room_for_more (Some x) None n m a l h = refl
room_for_more (Some x) (Some y) n m a l h = lt-ltb m y (omega (arith, a, l, ltb-true n x h))

-- Where a block has made as many moves in both states and no block more in the first, its event of the first is one of
-- the second too.
still_can : (net : Net) (high low : Rooms) (s t : State) (b : ℕ) → Wired net → NoMore low high → ((x : ℕ) → t x ≤ s x) → t b ≡ s b
    → Possible net low t b → can net high s b ≡ true
still_can net high low s t b w few below same (may_take p u e some) =
    let c = net.into b p in
    let at : net.receiver c ≡ b = (w.taken b (t b) p u e).0 in
    let taken : length (got net s c) ≤ length (got net t c) =
    got_monotone net s t c (omega (arith, subst (λ x. t x ≡ s x) (sym at) same)) in
    let put : length (sent net t c) ≤ length (sent net s c) = sent_monotone net t s c (below (net.sender c)) in
    ap (can_move net high s b) (ap (slice_get (net.moves b)) (sym same) ∙ e) ∙ lt-ltb 0 (waiting net s c) (omega (arith, some, taken, put))
still_can net high low s t b w few below same (may_put p u e room) =
    let c = net.out_of b p in
    let at : net.sender c ≡ b = (w.put b (t b) p u e).0 in
    let put : length (sent net s c) ≤ length (sent net t c) =
    sent_monotone net s t c (omega (arith, subst (λ x. t x ≡ s x) (sym at) same)) in
    let taken : length (got net t c) ≤ length (got net s c) = got_monotone net t s c (below (net.receiver c)) in
    ap (can_move net high s b) (ap (slice_get (net.moves b)) (sym same) ∙ e)
    ∙ room_for_more (low c) (high c) (waiting net t c) (waiting net s c) (few c) (omega (arith, put, taken)) room

-- so no event leads past a stuck state
event_below : (net : Net) (high low : Rooms) (s : State) → Wired net → NoMore low high → Stuck net high s
    → (t : State) (b : ℕ) → ((x : ℕ) → t x ≤ s x) → can net low t b ≡ true → (x : ℕ) → raise b t x ≤ s x
event_below net high low s w few stuck t b below h = by_one (λ x. raise b t x ≤ s x) b
    (elim (cases_lt (t b) (s b)) [
      | inl l ↦ omega (arith, raise_here b t, l)
      | inr l ↦
          (let same : t b ≡ s b = omega (arith, l, below b) in
          absurd (both_ways (can net high s b) (stuck b (in_net net low t b w h)) (still_can net high low s t b w few below same (possible net low t b h))))
    ])
    (λ x other. omega (arith, raise_there b t x other, below x))

pub never-passed : (net : Net) (high low : Rooms) (s t : State) → Wired net → NoMore low high
    → Stuck net high s → Reached net low t → (b : ℕ) → t b ≤ s b
never-passed net high low s t w few stuck r =
    reached_keeps (λ x. (b : ℕ) → x b ≤ s b) net low (event_below net high low s w few stuck) (λ b. omega arith) t r
