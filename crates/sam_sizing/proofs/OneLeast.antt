-- There is one least capacity, and one list of what waits with one less.
use Rattle.std.specs.Prelude.{◌≡◌, ◌≤◌, ◌<◌, ℕ, zero, suc, ◌⊎◌, List, [], ◌∷◌, refl}
use Rattle.std.proofs.Common.{arith, ◌∙◌, ap, sym, subst, inl, inr}
use Rattle.sam_base.specs.declared.faults.Waiting.{Waiting}
use Rattle.plays.specs.Net.{Net, Rooms, State, Wired, Reached, Stuck, Suffices, all_channels}
use Rattle.plays.proofs.Always.{always-kept}
use Rattle.plays.proofs.Ends.{one-end, some-end, larger-suffices}
use Rattle.stepper.specs.Endings.{waiting_list, EndsAt, StallsAt}
use Rattle.stepper.proofs.Stalling.{none_waiting, some_waiting}
use Rattle.sam_sizing.specs.declared.least.Least.{Least}
use Rattle.sam_sizing.specs.declared.least.Least.TheVariants.{Found, Above}
use Rattle.sam_sizing.specs.declared.bounds.Bounds.{Bounds}
use Rattle.sam_sizing.specs.Least.{StallsUpTo, IsLeastWith, IsLeast}
use Rattle.sam_sizing.specs.Trials.{LiesWithin}
use Rattle.sam_sizing.proofs.Tried.{finished_suffices, stalls-not-suffices, next-least}

-- ---- at most one

one_list : (net : Net) (rooms : Rooms) (xs ys : List Waiting) → Wired net → StallsAt net rooms xs → StallsAt net rooms ys → xs ≡ ys
one_list net rooms xs ys w a b =
    let same = one-end net rooms a.end b.end w a.ends.reached a.ends.stuck b.ends.reached b.ends.stuck in
    a.waiting ∙ ap (waiting_list net) same ∙ sym b.waiting

one_list_up_to : (net : Net) (n : ℕ) (xs ys : List Waiting) → Wired net → StallsUpTo net n xs → StallsUpTo net n ys → xs ≡ ys
one_list_up_to net zero xs ys w a b = a ∙ sym b
one_list_up_to net (suc n) xs ys w a b = one_list net (all_channels (suc n)) xs ys w a b

module _ (net : Net) (top : ℕ) (w : Wired net) where
  one_capacity : (c d : ℕ) (xs ys : List Waiting) → IsLeastWith net top c xs → IsLeastWith net top d ys → c ≡ d
  one_capacity c d xs ys a b =
      let not_less : c < d → ⊥ = λ less. b.no_smaller c a.some less a.suffices in
      let not_more : d < c → ⊥ = λ less. a.no_smaller d b.some less b.suffices in
      omega (arith, not_less, not_more)

  one_found : (c d : ℕ) (xs ys : List Waiting) → IsLeastWith net top c xs → IsLeastWith net top d ys → c ≡ d → Found c xs ≡ Found d ys
  one_found c d xs ys a b same =
      let there = subst (λ (n : ℕ). IsLeastWith net top n ys) (sym same) b in
      ap (Found c) (one_list_up_to net _ xs ys w a.stalls_below there.stalls_below) ∙ ap (λ (n : ℕ). Found n ys) same

  pub one-least : (a b : Least) → IsLeast net top a → IsLeast net top b → a ≡ b
  one-least (Found c xs) (Found d ys) a b = one_found c d xs ys a b (one_capacity c d xs ys a b)
  one-least (Found c xs) (Above ys) a b = absurd (stalls-not-suffices net top ys b a.top_suffices)
  one-least (Above xs) (Found d ys) a b = absurd (stalls-not-suffices net top xs a b.top_suffices)
  one-least (Above xs) (Above ys) a b = ap Above (one_list net (all_channels top) xs ys w a b)

-- ---- and one there is

-- a capacity suffices, or plays under it stall
tried : (net : Net) (n : ℕ) → Wired net → Suffices net n ⊎ ((list : List Waiting) × StallsAt net (all_channels n) list)
tried net n w = let end = some-end net (all_channels n) w in at_end end.0 end.1 end.2 (waiting_list net end.0) refl
  where
    at_end : (end : State) → Reached net (all_channels n) end → Stuck net (all_channels n) end → (list : List Waiting) →
        waiting_list net end ≡ list → Suffices net n ⊎ ((list : List Waiting) × StallsAt net (all_channels n) list)
    at_end end reached stuck [] none =
        inl (finished_suffices net (all_channels n) n end w (λ c l. refl) reached stuck
        (none_waiting net (all_channels n) end (always-kept net (all_channels n) end w reached) none))
    at_end end reached stuck (x ∷ xs) some =
        inr (
          waiting_list net end,
          record {
            end = end;
            ends = record { reached = reached; stuck = stuck };
            unfinished = some_waiting net end (λ none. cc);
            waiting = refl;
          },
        )

-- what a trial of one capacity more tells
next_least : (net : Net) (n : ℕ) → Wired net → (list : List Waiting) → StallsUpTo net n list →
    Suffices net (suc n) ⊎ ((list : List Waiting) × StallsAt net (all_channels (suc n)) list) → (least : Least) × IsLeast net (suc n) least
next_least net n w list stalls (inl enough) = (
  Found (suc n) list,
  next-least net (suc n) (record { low = n; below = list; high = suc n }) w (omega arith) (omega arith) (record { low = stalls; high = enough }),
)
next_least net n w list stalls (inr (more, stalls_too)) = (Above more, stalls_too)

-- one that is found stays the least
still_least : (net : Net) (n c : ℕ) (list : List Waiting) → Wired net → IsLeastWith net n c list → IsLeastWith net (suc n) c list
still_least net n c list w is = record {
  top_suffices = larger-suffices net n (suc n) w (omega arith) is.top_suffices;
  some = is.some;
  most = omega (arith, is.most);
  suffices = is.suffices;
  no_smaller = is.no_smaller;
  stalls_below = is.stalls_below;
}

pub some-least : (net : Net) (n : ℕ) → Wired net → (least : Least) × IsLeast net (suc n) least
some-least net zero w = next_least net zero w [] refl (tried net 1 w)
some-least net (suc n) w = onwards (some-least net n w)
  where
    onwards : (least : Least) × IsLeast net (suc n) least → (least : Least) × IsLeast net (suc (suc n)) least
    onwards (Found c list, is) = (Found c list, still_least net (suc n) c list w is)
    onwards (Above list, stalls) = next_least net (suc n) w list stalls (tried net (suc (suc n)) w)
