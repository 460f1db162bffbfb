-- How many moves a state has made.
use Rattle.std.specs.Prelude.{◌≡◌, ℕ, zero, suc, ◌+◌, ◌*◌, ◌<◌, ◌≤◌, [], ◌∷◌, length, take, slice_get, Some}
use Rattle.std.proofs.Common.{arith, refl, sym, ◌∙◌, ap, length-append, inl, inr}
use Rattle.std.proofs.lemmas.Bool.{cases_eq}
use Rattle.std.proofs.lemmas.Option.{slice_get-get_or}
use Rattle.block_core.specs.Move.{Move, Taking, Putting, takes, puts}
use Rattle.stream_tokens.specs.declared.Token.TheVariants.{Done}
use Rattle.plays.specs.Net.{Net, State, Wired, Finished, sum_below, raise, start, stream_on, sent, got}
use Rattle.plays.proofs.Event.{raise_here, raise_there, sent_put, sent_put_there, got_put, got_take, got_take_there}
use Rattle.plays.proofs.Event.{sent_take}
use Rattle.plays.proofs.Sums.{sum_same, sum_one_more, raise_sum, sum_zero, sum_double}
use Rattle.plays.proofs.Finishing.{all_sent, all_got}

-- the puts on a channel and the takes from it
abbrev passed : Net → State → ℕ → ℕ
passed net s c = length (sent net s c) + length (got net s c)

-- as many moves were made as tokens were put and taken
abbrev Counted : Net → State → Type 0
Counted net s = sum_below net.blocks s ≡ sum_below net.channels (passed net s)

-- a move is one more of them
one_passed : (net : Net) (s : State) (b : ℕ) (m : Move) → Wired net → slice_get (net.moves b) (s b) ≡ Some m
    → sum_below net.channels (passed net (raise b s)) ≡ suc (sum_below net.channels (passed net s))
one_passed net s b (Taking p t) w e =
    sum_one_more net.channels (net.into b p) (passed net s) (passed net (raise b s)) (w.taken b (s b) p t e).2
    (omega (arith, ap length (got_take net s b p t w e), length-append (got net s (net.into b p)) (t ∷ []), ap length (sent_take net s b p t (net.into b p) e)))
    (λ c l other. omega (arith, ap length (got_take_there net s b p t c w e l other), ap length (sent_take net s b p t c e)))
one_passed net s b (Putting p t) w e =
    sum_one_more net.channels (net.out_of b p) (passed net s) (passed net (raise b s)) (w.put b (s b) p t e).2
    (omega (arith, ap length (sent_put net s b p t w e), length-append (sent net s (net.out_of b p)) (t ∷ []), ap length (got_put net s b p t (net.out_of b p) e)))
    (λ c l other. omega (arith, ap length (sent_put_there net s b p t c w e l other), ap length (got_put net s b p t c e)))

counted_raise : (net : Net) (s : State) (b : ℕ) → Wired net → b < net.blocks → s b < length (net.moves b) → Counted net s → Counted net (raise b s)
counted_raise net s b w l next h =
    omega (arith, h, raise_sum net.blocks b s l, one_passed net s b _ w (slice_get-get_or (net.moves b) (s b) (Taking 0 Done) next))

-- only the blocks of the net count
counted_same : (net : Net) (s t : State) → Wired net → ((b : ℕ) → b < net.blocks → t b ≡ s b) → Counted net s → Counted net t
counted_same net s t w same h =
    sum_same net.blocks s t same ∙ h
    ∙ sym (sum_same net.channels (passed net s) (passed net t) (λ c l.
    ap (λ n. length (puts (net.sent_at c) (take n (net.moves (net.sender c)))) + length (got net t c)) (same (net.sender c) (w.came c l).1)
    ∙ ap (λ n. length (sent net s c) + length (takes (net.received_at c) (take n (net.moves (net.receiver c))))) (same (net.receiver c) (w.received c l).1)))

-- ---- a state, block by block and move by move

-- so many moves of one block
abbrev times : ℕ → ℕ → State → State
times zero b t = t
times (suc k) b t = raise b (times k b t)

times_here : (k b : ℕ) (t : State) → times k b t b ≡ k + t b
times_here zero b t = omega arith
times_here (suc k) b t = omega (arith, raise_here b (times k b t), times_here k b t)

times_there : (k b : ℕ) (t : State) (x : ℕ) → (x ≡ b → ⊥) → times k b t x ≡ t x
times_there zero b t x other = refl
times_there (suc k) b t x other = raise_there b (times k b t) x other ∙ times_there k b t x other

counted_times : (net : Net) (t : State) (k b : ℕ) → Wired net → b < net.blocks → k + t b ≤ length (net.moves b) → Counted net t → Counted net (times k b t)
counted_times net t zero b w l within h = h
counted_times net t (suc k) b w l within h =
    counted_raise net (times k b t) b w l (omega (arith, within, times_here k b t))
    (counted_times net t k b w l (omega (arith, within)) h)

-- the moves of the first n blocks
abbrev made_by : ℕ → State → State
made_by zero s = start
made_by (suc n) s = times (s n) n (made_by n s)

none_yet : (n : ℕ) (s : State) (x : ℕ) → n ≤ x → made_by n s x ≡ 0
none_yet zero s x l = refl
none_yet (suc n) s x l = times_there (s n) n (made_by n s) x (λ e. omega (arith, e, l)) ∙ none_yet n s x (omega (arith, l))

all_made : (n : ℕ) (s : State) (x : ℕ) → x < n → made_by n s x ≡ s x
all_made zero s x l = absurd (omega (arith, l))
all_made (suc n) s x l = elim (cases_eq x n) [
  | inl e ↦ ap (λ y. times (s n) n (made_by n s) y) e ∙ omega (arith, times_here (s n) n (made_by n s), none_yet n s n (omega arith)) ∙ ap s (sym e)
  | inr other ↦ times_there (s n) n (made_by n s) x other ∙ all_made n s x (omega (arith, l, other))
]

counted_made : (net : Net) (s : State) (n : ℕ) → Wired net → n ≤ net.blocks → ((b : ℕ) → b < net.blocks → s b ≤ length (net.moves b)) → Counted net (made_by n s)
counted_made net s zero w l within = sum_zero net.blocks ∙ sym (sum_zero net.channels)
counted_made net s (suc n) w l within =
    counted_times net (made_by n s) (s n) n w (omega (arith, l))
    (omega (arith, within n (omega (arith, l)), none_yet n s n (omega arith)))
    (counted_made net s n w (omega (arith, l)) within)

pub each-counts : (net : Net) (s : State) → Wired net → ((b : ℕ) → b < net.blocks → s b ≤ length (net.moves b))
    → sum_below net.blocks s ≡ sum_below net.channels (λ c. length (sent net s c) + length (got net s c))
each-counts net s w within =
    counted_same net (made_by net.blocks s) s w (λ b l. sym (all_made net.blocks s b l)) (counted_made net s net.blocks w (omega arith) within)

pub twice-each : (net : Net) (s : State) → Wired net → Finished net s
    → sum_below net.blocks s ≡ 2 * sum_below net.channels (λ c. length (stream_on net c))
twice-each net s w done =
    each-counts net s w (λ b l. omega (arith, done b l))
    ∙ sum_same net.channels (λ c. length (stream_on net c) + length (stream_on net c)) (passed net s)
    (λ c l. omega (arith, ap length (all_sent net s c (done (net.sender c) (w.came c l).1)), ap length (all_got net s c w l (done (net.receiver c) (w.received c l).1))))
    ∙ sum_double net.channels (λ c. length (stream_on net c))
