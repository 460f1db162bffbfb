-- What runs tell of capacities.
use Rattle.std.specs.Prelude.{◌≡◌, ◌<◌, ◌≤◌, ◌-◌, ◌+◌, ℕ, zero, suc, List, replicate, refl}
use Rattle.std.specs.Prelude.{Option, Some, None, Result, Ok, Err, IfOk}
use Rattle.std.proofs.Common.{arith, ◌∙◌, ap, subst}
use Rattle.std.proofs.lemmas.List.{get_or-replicate}
use Rattle.sam_base.specs.declared.faults.Waiting.{Waiting}
use Rattle.plays.specs.Net.{Net, Rooms, State, Wired, Reached, Stuck, Finished, Suffices, all_channels}
use Rattle.plays.proofs.Ends.{one-end, larger-suffices}
use Rattle.plays.proofs.SameRooms.{same_reached, same_stuck}
use Rattle.stepper.specs.declared.machine.finish.Ending.{Ending}
use Rattle.stepper.specs.declared.machine.finish.Ending.TheVariants as ends
use Rattle.stepper.specs.NetOf.{rooms_of}
use Rattle.stepper.specs.Endings.{waiting_list, StallsAt}
use Rattle.sam_sizing.specs.Least.{StallsUpTo, IsLeastWith}
use Rattle.sam_sizing.specs.Trials.{EndsAs, LiesWithin}
use Rattle.sam_sizing.specs.declared.bounds.Bounds.{Bounds}

-- ---- a run with one capacity on every channel

-- so many equal limits are that limit on every channel
pub alike-rooms : (caps : List (Option ℕ)) (channels n : ℕ) → caps ≡ replicate channels (Some n)
    → (c : ℕ) → c < channels → rooms_of caps c ≡ all_channels n c
alike-rooms caps channels n alike c l = ap (λ list. rooms_of list c) alike ∙ get_or-replicate channels c (Some n) None l

module _ (net : Net) (rooms : Rooms) (n : ℕ) (s : State) (wired : Wired net)
    (alike : (c : ℕ) → c < net.channels → rooms c ≡ all_channels n c)
    (reached : Reached net rooms s) (stuck : Stuck net rooms s) where
  reached_alike : Reached net (all_channels n) s
  reached_alike = same_reached net rooms (all_channels n) wired alike s reached

  stuck_alike : Stuck net (all_channels n) s
  stuck_alike = same_stuck net rooms (all_channels n) wired alike s stuck

  -- it finished, so the capacity suffices
  pub finished_suffices : Finished net s → Suffices net n
  finished_suffices finished = λ t r k.
      subst (Finished net) (one-end net (all_channels n) s t wired reached_alike stuck_alike r k) finished

  -- it stalled, with these blocks waiting
  unfinished_stalls : (list : List Waiting) → ¬ Finished net s → list ≡ waiting_list net s → StallsAt net (all_channels n) list
  unfinished_stalls list unfinished waiting = record {
    end = s;
    ends = record { reached = reached_alike; stuck = stuck_alike };
    unfinished = unfinished;
    waiting = waiting;
  }

  -- it tells which of the two, once no block can move
  pub ends-as : (ending : Ending) → (ending ≡ ends.Finished → Finished net s)
      → ((list : List Waiting) → ending ≡ ends.Stalled list → (list ≡ waiting_list net s) × (Finished net s → ⊥))
      → EndsAs net n ending
  ends-as ends.Finished finished stalled = finished_suffices (finished refl)
  ends-as (ends.Stalled list) finished stalled = let waits = stalled list refl in unfinished_stalls list waits.1 waits.0

-- what holds of each value that a result may be
pub ok-each : {T E : Type 0} (r : Result T E) (P : T → Type 0) → ((x : T) → r ≡ Ok x → P x) → IfOk r P
ok-each (Ok x) P each = each x refl
ok-each (Err e) P each = tt

-- ---- the least capacity

pub stalls-not-suffices : (net : Net) (n : ℕ) (list : List Waiting) → StallsAt net (all_channels n) list → ¬ Suffices net n
stalls-not-suffices net n list stalls enough = stalls.unfinished (enough stalls.end stalls.ends.reached stalls.ends.stuck)

pub stalls-from-one : (net : Net) (n : ℕ) (list : List Waiting) → 1 ≤ n → StallsAt net (all_channels n) list → StallsUpTo net n list
stalls-from-one net zero list some stalls = absurd (omega (arith, some))
stalls-from-one net (suc n) list some stalls = stalls

-- what is at most a capacity that stalls doesn't suffice
none_up_to : (net : Net) (low : ℕ) (list : List Waiting) → Wired net → StallsUpTo net low list
    → (n : ℕ) → 1 ≤ n → n ≤ low → ¬ Suffices net n
none_up_to net zero list w stalls n some few enough = omega (arith, some, few)
none_up_to net (suc low) list w stalls n some few enough =
    stalls-not-suffices net (suc low) list stalls (larger-suffices net n (suc low) w few enough)

-- Where the high bound is one more than the low one, it is the least capacity.
pub next-least : (net : Net) (top : ℕ) (bounds : Bounds) → Wired net → bounds.high ≤ top → bounds.high ≡ bounds.low + 1
    → LiesWithin net bounds → IsLeastWith net top bounds.high bounds.below
next-least net top bounds w most next lies = record {
  top_suffices = larger-suffices net bounds.high top w most lies.high;
  some = omega (arith, next);
  most = most;
  suffices = lies.high;
  no_smaller = λ n some less. none_up_to net bounds.low bounds.below w lies.low n some (omega (arith, next, less));
  stalls_below = subst (λ (n : ℕ). StallsUpTo net n bounds.below) (one_less bounds.low bounds.high next) lies.low;
}
  where
    one_less : (low high : ℕ) → high ≡ low + 1 → low ≡ high - 1
    one_less low high e = omega (arith, e)
