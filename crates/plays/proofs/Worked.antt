-- Worked cases: a net of two blocks and two channels that stalls where a channel may hold one token, and finishes where it
-- may hold two.
use Rattle.std.specs.Prelude.{◌≡◌, ℕ, zero, suc, ◌-◌, ◌<◌, ◌≤◌, ◌*◌, true, false, List, [], ◌∷◌, length, slice_get}
use Rattle.std.specs.Prelude.{Some, None, refl}
use Rattle.std.proofs.Common.{arith}
use Rattle.stream_tokens.specs.declared.Token.{Token}
use Rattle.stream_tokens.specs.declared.Token.TheVariants.{Item, Done}
use Rattle.block_core.specs.Move.{Move, Taking, Putting}
use Rattle.plays.specs.Net.{Net, State, Wired, WithinBounds, Stuck, Finished, Reached, Suffices, Forwards, WholeRoom}
use Rattle.plays.specs.Net.{WithinLimit, Waits, NoMore, all_channels, sum_below, raise, turn, stream_on, sent, got}
use Rattle.plays.specs.Net.{waiting, queue, has_room, can, play, start}
use Rattle.plays.proofs.Always.{always-kept}
use Rattle.plays.proofs.Ends.{more-room}

-- Block 0 puts two tokens on channel 0 and then one on channel 1. Block 1 takes from channel 1 first.
abbrev two_moves : ℕ → List Move
two_moves zero = Putting 0 (Item 5) ∷ Putting 0 Done ∷ Putting 1 (Item 7) ∷ []
two_moves (suc zero) = Taking 1 (Item 7) ∷ Taking 0 (Item 5) ∷ Taking 0 Done ∷ []
two_moves (suc (suc b)) = []

abbrev two : Net
two = record {
  blocks = 2;
  channels = 2;
  moves = two_moves;
  into = λ b p. p;
  out_of = λ b p. p;
  sender = λ c. 0;
  sent_at = λ c. c;
  receiver = λ c. 1;
  received_at = λ c. c;
}

two_taken : (b n p : ℕ) (t : Token) → slice_get (two_moves b) n ≡ Some (Taking p t) → (1 ≡ b) × (p ≡ p) × (p < 2)
two_taken zero zero p t e = absurd (cc)
two_taken zero (suc zero) p t e = absurd (cc)
two_taken zero (suc (suc zero)) p t e = absurd (cc)
two_taken zero (suc (suc (suc n))) p t e = absurd (cc)
two_taken (suc zero) zero p t e = let at : 1 ≡ p = cc in (refl, refl, omega (arith, at))
two_taken (suc zero) (suc zero) p t e = let at : 0 ≡ p = cc in (refl, refl, omega (arith, at))
two_taken (suc zero) (suc (suc zero)) p t e = let at : 0 ≡ p = cc in (refl, refl, omega (arith, at))
two_taken (suc zero) (suc (suc (suc n))) p t e = absurd (cc)
two_taken (suc (suc b)) n p t e = absurd (cc)

two_put : (b n p : ℕ) (t : Token) → slice_get (two_moves b) n ≡ Some (Putting p t) → (0 ≡ b) × (p ≡ p) × (p < 2)
two_put zero zero p t e = let at : 0 ≡ p = cc in (refl, refl, omega (arith, at))
two_put zero (suc zero) p t e = let at : 0 ≡ p = cc in (refl, refl, omega (arith, at))
two_put zero (suc (suc zero)) p t e = let at : 1 ≡ p = cc in (refl, refl, omega (arith, at))
two_put zero (suc (suc (suc n))) p t e = absurd (cc)
two_put (suc zero) zero p t e = absurd (cc)
two_put (suc zero) (suc zero) p t e = absurd (cc)
two_put (suc zero) (suc (suc zero)) p t e = absurd (cc)
two_put (suc zero) (suc (suc (suc n))) p t e = absurd (cc)
two_put (suc (suc b)) n p t e = absurd (cc)

-- a fact of the numbers below 2
below_two : (P : ℕ → Type 0) → P 0 → P 1 → (n : ℕ) → n < 2 → P n
below_two P a b zero l = a
below_two P a b (suc zero) l = b
below_two P a b (suc (suc n)) l = absurd (omega (arith, l))

two_none : (b : ℕ) → 2 ≤ b → two_moves b ≡ []
two_none zero l = absurd (omega (arith, l))
two_none (suc zero) l = absurd (omega (arith, l))
two_none (suc (suc b)) l = refl

two_wired : Wired two
two_wired = record {
  none = two_none;
  taken = two_taken;
  put = two_put;
  received = λ c l. (refl, omega arith);
  came = λ c l. (refl, omega arith);
  same = below_two _ refl refl;
}

whole_row : (stream_on two 0 ≡ Item 5 ∷ Done ∷ []) × (stream_on two 1 ≡ Item 7 ∷ [])
whole_row = (refl, refl)

-- a net whose channel 0 carries another stream than block 1 takes
unlike : Wired (record {
  blocks = 2;
  channels = 1;
  moves = two_moves;
  into = λ b p. p;
  out_of = λ b p. p;
  sender = λ c. 0;
  sent_at = λ c. 1;
  receiver = λ c. 1;
  received_at = λ c. 0;
}) → ⊥
unlike w = let e : Item 7 ∷ [] ≡ Item 5 ∷ Done ∷ [] = w.same 0 (omega arith) in absurd (cc)

-- ---- room for one token

-- block 0 puts once and then finds channel 0 full; block 1 finds channel 1 empty
abbrev stalled : State
stalled = play two (all_channels 1) start (0 ∷ 0 ∷ 1 ∷ 0 ∷ [])

stalled_row : (stalled 0 ≡ 1) × (stalled 1 ≡ 0)
stalled_row = (refl, refl)

stalled_waits : (waiting two stalled 0 ≡ 1) × (queue two stalled 0 ≡ Item 5 ∷ []) × (waiting two stalled 1 ≡ 0) × (queue two stalled 1 ≡ [])
stalled_waits = (refl, refl, refl, refl)

stalled_stuck : Stuck two (all_channels 1) stalled
stalled_stuck = below_two _ refl refl

stalled_reached : Reached two (all_channels 1) stalled
stalled_reached = (0 ∷ 0 ∷ 1 ∷ 0 ∷ [], refl)

stalled_unfinished : Finished two stalled → ⊥
stalled_unfinished h = let e : 1 ≡ 3 = h 0 (omega arith) in absurd (omega (arith, e))

one_too_few : Suffices two 1 → ⊥
one_too_few h = stalled_unfinished (h stalled stalled_reached stalled_stuck)

-- with more room the same state is not stuck
more_at_two : (can two (all_channels 2) stalled 0 ≡ true) × (can two (all_channels 2) stalled 1 ≡ false)
more_at_two = (refl, refl)

-- ---- room for two

-- on the way: one token was taken from channel 0 and one waits there
abbrev halfway : State
halfway = play two (all_channels 2) start (0 ∷ 1 ∷ 0 ∷ 0 ∷ 1 ∷ 1 ∷ [])

halfway_row : (halfway 0 ≡ 3) × (halfway 1 ≡ 2)
halfway_row = (refl, refl)

halfway_tokens : (sent two halfway 0 ≡ Item 5 ∷ Done ∷ []) × (got two halfway 0 ≡ Item 5 ∷ []) × (queue two halfway 0 ≡ Done ∷ []) × (waiting two halfway 0 ≡ 1)
halfway_tokens = (refl, refl, refl, refl)

halfway_left : Waits two halfway 0 (Done ∷ [])
halfway_left = refl

-- five events: three puts and two takes
halfway_count : sum_below 2 halfway ≡ 5
halfway_count = refl

halfway_kept : WithinBounds two (all_channels 2) halfway
halfway_kept = always-kept two (all_channels 2) halfway two_wired (0 ∷ 1 ∷ 0 ∷ 0 ∷ 1 ∷ 1 ∷ [], refl)

-- what no play reaches: more moves than there are, a take of what wasn't put, more tokens than there is room for
past_the_end : WithinBounds two (all_channels 2) (λ b. 4) → ⊥
past_the_end h = let l : 4 ≤ 3 = h.within 0 in omega (arith, l)

taken_early : WithinBounds two (all_channels 2) (λ b. b) → ⊥
taken_early h = let l : 1 ≤ 0 = h.order 1 (omega arith) in omega (arith, l)

too_full : WithinBounds two (all_channels 1) (λ b. 2 - 2 * b) → ⊥
too_full h = let l : 2 ≤ 1 = h.room 0 (omega arith) in omega (arith, l)

abbrev done : State
done = play two (all_channels 2) start (0 ∷ 0 ∷ 0 ∷ 1 ∷ 1 ∷ 1 ∷ [])

done_finished : Finished two done
done_finished = below_two _ refl refl

done_count : sum_below 2 done ≡ 2 * sum_below 2 (λ c. length (stream_on two c))
done_count = refl

-- another order of the events ends in the same state
another_order : (done 0 ≡ turn two (all_channels 2) halfway 1 0) × (done 1 ≡ turn two (all_channels 2) halfway 1 1)
another_order = (refl, refl)

two_enough : Suffices two 2
two_enough = λ s r stuck.
    more-room two (all_channels 2) (all_channels 2) s done two_wired (λ c. omega arith) (0 ∷ 0 ∷ 0 ∷ 1 ∷ 1 ∷ 1 ∷ [], refl) done_finished r stuck

-- both channels lead from block 0 to block 1, and the longer stream has two tokens
two_forwards : Forwards two (λ b. b)
two_forwards = λ c l. omega arith

two_whole_room : WholeRoom two (all_channels 2)
two_whole_room = below_two _ (omega arith) (omega arith)

-- ---- limits

room_rows : (has_room None 9 ≡ true) × (has_room (Some 2) 1 ≡ true) × (has_room (Some 2) 2 ≡ false)
room_rows = (refl, refl, refl)

less_room : NoMore (all_channels 1) (all_channels 2)
less_room = λ c. omega arith

no_limit_is_most : NoMore (all_channels 1) (λ c. None)
no_limit_is_most = λ c. tt

a_limit_is_less : NoMore (λ c. None) (all_channels 1) → ⊥
a_limit_is_less h = h 0

fits_rows : WithinLimit None 9 × WithinLimit (Some 2) 2 × (WithinLimit (Some 2) 3 → ⊥)
fits_rows = (tt, omega arith, λ h. omega (arith, h))

raise_rows : (raise 1 start 1 ≡ 1) × (raise 1 start 0 ≡ 0)
raise_rows = (refl, refl)
