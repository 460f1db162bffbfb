-- Where plays end.
use Rattle.std.specs.Prelude.{◌≡◌, ℕ, zero, suc, ◌+◌, ◌<◌, ◌≤◌, Bool, true, false, length, Option, Some, None}
use Rattle.std.proofs.Common.{arith, refl, sym, ap, subst, ◌⊎◌, inl, inr}
use Rattle.std.proofs.lemmas.Bool.{cases_eq}
use Rattle.std.proofs.lemmas.Option.{slice_get_past}
use Rattle.plays.specs.Net.{Net, Rooms, State, Wired, Stuck, Finished, Reached, Suffices, NoMore, AtMost, all_channels}
use Rattle.plays.specs.Net.{sum_below, raise, can_move, can, start}
use Rattle.plays.proofs.Sums.{raise_sum, sum_at_most}
use Rattle.plays.proofs.Always.{always-kept, start_reached, event_reached, in_net}
use Rattle.plays.proofs.Passed.{never-passed}

at_most_self : (o : Option ℕ) → AtMost o o
at_most_self None = tt
at_most_self (Some n) = omega arith

-- a block that has made all its moves has no event
pub finished_stuck : (net : Net) (rooms : Rooms) (s : State) → Finished net s → Stuck net rooms s
finished_stuck net rooms s done = λ b l.
    ap (can_move net rooms s b) (slice_get_past (net.moves b) (s b) (omega (arith, done b l)))

pub one-end : (net : Net) (rooms : Rooms) (s t : State) → Wired net
    → Reached net rooms s → Stuck net rooms s → Reached net rooms t → Stuck net rooms t → s ≡ t
one-end net rooms s t w rs ks rt kt =
    let same : (b : ℕ) → s b ≡ t b = λ b.
    omega (arith, never-passed net rooms rooms s t w (λ c. at_most_self (rooms c)) ks rt b, never-passed net rooms rooms t s w (λ c. at_most_self (rooms c)) kt rs b) in
    λ i b. same b i

pub more-room : (net : Net) (low high : Rooms) (s t : State) → Wired net → NoMore low high
    → Reached net low t → Finished net t → Reached net high s → Stuck net high s → Finished net s
more-room net low high s t w few rt done rs stuck = λ b l.
    omega (arith, done b l, never-passed net high low s t w few stuck rt b, (always-kept net high s w rs).within b)

-- ---- some play ends stuck

-- one of the first n blocks has an event, or none has
some_event : (net : Net) (rooms : Rooms) (s : State) (n : ℕ)
    → ((b : ℕ) × (can net rooms s b ≡ true)) ⊎ ((b : ℕ) → b < n → can net rooms s b ≡ false)
some_event net rooms s zero = inr (λ b l. absurd (omega (arith, l)))
some_event net rooms s (suc n) = by_case (can net rooms s n) refl (some_event net rooms s n)
  where
    by_case : (x : Bool) → can net rooms s n ≡ x → ((b : ℕ) × (can net rooms s b ≡ true)) ⊎ ((b : ℕ) → b < n → can net rooms s b ≡ false)
        → ((b : ℕ) × (can net rooms s b ≡ true)) ⊎ ((b : ℕ) → b < suc n → can net rooms s b ≡ false)
    by_case true e below = inl (n, e)
    by_case false e below = elim below [
      | inl found ↦ inl found
      | inr nothing ↦ inr (λ b l. elim (cases_eq b n) [ inl at ↦ subst (λ x. can net rooms s x ≡ false) (sym at) e | inr other ↦ nothing b (omega (arith, l, other)) ])
    ]

-- no reached state has made more moves than there are
moves_bound : (net : Net) (rooms : Rooms) (s : State) → Wired net → Reached net rooms s
    → sum_below net.blocks s ≤ sum_below net.blocks (λ b. length (net.moves b))
moves_bound net rooms s w r = sum_at_most net.blocks s (λ b. length (net.moves b)) (λ b _. (always-kept net rooms s w r).within b)

-- with so many moves left at most, a play goes on to a stuck state
goes_on : (net : Net) (rooms : Rooms) → Wired net → (left : ℕ) (s : State) → Reached net rooms s
    → sum_below net.blocks (λ b. length (net.moves b)) ≤ sum_below net.blocks s + left → (t : State) × Reached net rooms t × Stuck net rooms t
goes_on net rooms w zero s r few = elim (some_event net rooms s net.blocks) [
  | inr none ↦ (s, r, none)
  | inl found ↦
      (let more : sum_below net.blocks (raise found.0 s) ≡ suc (sum_below net.blocks s) =
      raise_sum net.blocks found.0 s (in_net net rooms s found.0 w found.1) in
      absurd (omega (arith, more, few, moves_bound net rooms (raise found.0 s) w (event_reached net rooms s found.0 found.1 r))))
]
goes_on net rooms w (suc left) s r few = elim (some_event net rooms s net.blocks) [
  | inr none ↦ (s, r, none)
  | inl found ↦
      (let more : sum_below net.blocks (raise found.0 s) ≡ suc (sum_below net.blocks s) =
      raise_sum net.blocks found.0 s (in_net net rooms s found.0 w found.1) in
      goes_on net rooms w left (raise found.0 s) (event_reached net rooms s found.0 found.1 r) (omega (arith, more, few)))
]

pub some-end : (net : Net) (rooms : Rooms) → Wired net → (s : State) × Reached net rooms s × Stuck net rooms s
some-end net rooms w = goes_on net rooms w (sum_below net.blocks (λ b. length (net.moves b))) start (start_reached net rooms) (omega arith)

pub larger-suffices : (net : Net) (low high : ℕ) → Wired net → low ≤ high → Suffices net low → Suffices net high
larger-suffices net low high w l enough = λ s r stuck.
    let end = some-end net (all_channels low) w in
    more-room net (all_channels low) (all_channels high) s end.0 w (λ c. l) end.1 (enough end.0 end.1 end.2) r stuck
