-- Worked cases: a net of two blocks and two channels that needs room for three tokens, and a root that is drained.
use Rattle.std.specs.Prelude.{◌≡◌, ◌<◌, ℕ, zero, suc, true, false, List, [], ◌∷◌, slice_get, Some, refl}
use Rattle.std.proofs.Common.{◌∙◌, ap, sym, arith}
use Rattle.stream_tokens.specs.declared.Token.{Token}
use Rattle.stream_tokens.specs.declared.Token.TheVariants.{Item, Done}
use Rattle.stream_model.specs.declared.labels.Tree.TheVariants as tree
use Rattle.stream_model.specs.declared.labels.Attr.TheVariants as attr
use Rattle.sam_base.specs.declared.faults.Waiting.{Waiting}
use Rattle.block_core.specs.Move.{Move, Taking, Putting}
use Rattle.block_core.specs.Kind.{Kind, RootKind, DrainKind}
use Rattle.graph.specs.declared.graphs.Graph.{Graph}
use Rattle.graph.specs.WholeStreams.{Consistent}
use Rattle.graph.specs.declared.graphs.Kind.TheVariants.{Root, Drain}
use Rattle.plays.specs.Net.{Net, State, Wired, Suffices, all_channels, play, start}
use Rattle.plays.proofs.Ends.{one-end, more-room}
use Rattle.stepper.specs.declared.machine.finish.Ending.TheVariants.{Finished as RunFinished, Stalled}
use Rattle.stepper.specs.Endings.{waiting_list, StallsAt}
use Rattle.sam_sizing.specs.declared.least.Least.TheVariants.{Found, Above}
use Rattle.sam_sizing.specs.declared.bounds.Bounds.{Bounds}
use Rattle.sam_sizing.specs.Makers.{AreAtStart, kinds_over, MakesFor}
use Rattle.sam_sizing.specs.Least.{StallsUpTo, IsLeast}
use Rattle.sam_sizing.specs.Trials.{EndsAs, LiesWithin}
use Rattle.sam_sizing.proofs.Tried.{next-least}

-- Block 0 puts three tokens on channel 0 and then one on channel 1. Block 1 takes from channel 1 first.
abbrev late_moves : ℕ → List Move
late_moves zero = Putting 0 (Item 5) ∷ Putting 0 (Item 6) ∷ Putting 0 Done ∷ Putting 1 (Item 7) ∷ []
late_moves (suc zero) = Taking 1 (Item 7) ∷ Taking 0 (Item 5) ∷ Taking 0 (Item 6) ∷ Taking 0 Done ∷ []
late_moves (suc (suc b)) = []

abbrev late : Net
late = record {
  blocks = 2;
  channels = 2;
  moves = late_moves;
  into = λ b p. p;
  out_of = λ b p. p;
  sender = λ c. 0;
  sent_at = λ c. c;
  receiver = λ c. 1;
  received_at = λ c. c;
}

late_taken : (b n p : ℕ) (t : Token) → slice_get (late_moves b) n ≡ Some (Taking p t) → (1 ≡ b) × (p ≡ p) × (p < 2)
late_taken zero zero p t e = absurd (cc)
late_taken zero (suc zero) p t e = absurd (cc)
late_taken zero (suc (suc zero)) p t e = absurd (cc)
late_taken zero (suc (suc (suc zero))) p t e = absurd (cc)
late_taken zero (suc (suc (suc (suc n)))) p t e = absurd (cc)
late_taken (suc zero) zero p t e = let at : 1 ≡ p = cc in (refl, refl, omega (arith, at))
late_taken (suc zero) (suc zero) p t e = let at : 0 ≡ p = cc in (refl, refl, omega (arith, at))
late_taken (suc zero) (suc (suc zero)) p t e = let at : 0 ≡ p = cc in (refl, refl, omega (arith, at))
late_taken (suc zero) (suc (suc (suc zero))) p t e = let at : 0 ≡ p = cc in (refl, refl, omega (arith, at))
late_taken (suc zero) (suc (suc (suc (suc n)))) p t e = absurd (cc)
late_taken (suc (suc b)) n p t e = absurd (cc)

late_put : (b n p : ℕ) (t : Token) → slice_get (late_moves b) n ≡ Some (Putting p t) → (0 ≡ b) × (p ≡ p) × (p < 2)
late_put zero zero p t e = let at : 0 ≡ p = cc in (refl, refl, omega (arith, at))
late_put zero (suc zero) p t e = let at : 0 ≡ p = cc in (refl, refl, omega (arith, at))
late_put zero (suc (suc zero)) p t e = let at : 0 ≡ p = cc in (refl, refl, omega (arith, at))
late_put zero (suc (suc (suc zero))) p t e = let at : 1 ≡ p = cc in (refl, refl, omega (arith, at))
late_put zero (suc (suc (suc (suc n)))) p t e = absurd (cc)
late_put (suc zero) zero p t e = absurd (cc)
late_put (suc zero) (suc zero) p t e = absurd (cc)
late_put (suc zero) (suc (suc zero)) p t e = absurd (cc)
late_put (suc zero) (suc (suc (suc zero))) p t e = absurd (cc)
late_put (suc zero) (suc (suc (suc (suc n)))) p t e = absurd (cc)
late_put (suc (suc b)) n p t e = absurd (cc)

late_none : (b : ℕ) → 2 < suc b → late_moves b ≡ []
late_none zero l = absurd (omega (arith, l))
late_none (suc zero) l = absurd (omega (arith, l))
late_none (suc (suc b)) l = refl

-- a fact of the numbers below 2
at_both : (P : ℕ → Type 0) → P 0 → P 1 → (n : ℕ) → n < 2 → P n
at_both P a b zero l = a
at_both P a b (suc zero) l = b
at_both P a b (suc (suc n)) l = absurd (omega (arith, l))

late_wired : Wired late
late_wired = record {
  none = λ b l. late_none b (omega (arith, l));
  taken = late_taken;
  put = late_put;
  received = λ c l. (refl, omega arith);
  came = λ c l. (refl, omega arith);
  same = at_both _ refl refl;
}

-- ---- room for two tokens

-- block 0 finds channel 0 full, block 1 finds channel 1 empty
abbrev both_wait : List Waiting
both_wait = record { block = 0; channel = 0; full = true } ∷ record { block = 1; channel = 1; full = false } ∷ []

abbrev stalled_at_two : State
stalled_at_two = play late (all_channels 2) start (0 ∷ 0 ∷ 0 ∷ 1 ∷ [])

two_stalls : StallsAt late (all_channels 2) both_wait
two_stalls = record {
  end = stalled_at_two;
  ends = record { reached = (0 ∷ 0 ∷ 0 ∷ 1 ∷ [], refl); stuck = at_both _ refl refl };
  unfinished = λ h. let e : 2 ≡ 4 = h 0 (omega arith) in omega (arith, e);
  waiting = refl;
}

-- it has no list but this
no_other_list : StallsAt late (all_channels 2) [] → ⊥
no_other_list h =
    let same : h.end ≡ two_stalls.end =
    one-end late (all_channels 2) h.end two_stalls.end late_wired h.ends.reached h.ends.stuck two_stalls.ends.reached two_stalls.ends.stuck in
    let list : [] ≡ both_wait = h.waiting ∙ ap (waiting_list late) same ∙ sym two_stalls.waiting in
    absurd (cc)

-- ---- room for three

abbrev all_made : List ℕ
all_made = 0 ∷ 0 ∷ 0 ∷ 0 ∷ 1 ∷ 1 ∷ 1 ∷ 1 ∷ []

three_enough : Suffices late 3
three_enough = λ s r stuck.
    more-room late (all_channels 3) (all_channels 3) s (play late (all_channels 3) start all_made) late_wired (λ c. omega arith)
    (all_made, refl) (at_both _ refl refl) r stuck

abbrev next_to_three : Bounds
next_to_three = record { low = 2; below = both_wait; high = 3 }

three_lies : LiesWithin late next_to_three
three_lies = record { low = two_stalls; high = three_enough }

three_least : IsLeast late 4 (Found 3 both_wait)
three_least = next-least late 4 next_to_three late_wired (omega arith) refl three_lies

-- a capacity that merely suffices isn't the least one
four_merely_suffices : (list : List Waiting) → IsLeast late 4 (Found 4 list) → ⊥
four_merely_suffices list h = h.no_smaller 3 (omega arith) (omega arith) three_enough

-- one that is tried and stalls isn't either
two_too_small : (list : List Waiting) → IsLeast late 4 (Found 2 list) → ⊥
two_too_small list h = two_stalls.unfinished (h.suffices two_stalls.end two_stalls.ends.reached two_stalls.ends.stuck)

-- with two as the largest that may be tried there is none
above_two : IsLeast late 2 (Above both_wait)
above_two = two_stalls

not_above_three : (list : List Waiting) → IsLeast late 3 (Above list) → ⊥
not_above_three list h = h.unfinished (three_enough h.end h.ends.reached h.ends.stuck)

-- below a capacity of 1 nothing waits
none_below_one : StallsUpTo late 0 []
none_below_one = refl

-- what runs with two and with three tell
trial_rows : EndsAs late 2 (Stalled both_wait) × EndsAs late 3 RunFinished
trial_rows = (two_stalls, three_enough)

-- ---- makers

abbrev drained_root : Graph
drained_root = record {
  blocks = record { kind = Root; ins = []; outs = 0 ∷ [] } ∷ record { kind = Drain; ins = 0 ∷ []; outs = [] } ∷ [];
  channels =
      record {
        from_block = 0;
        from_port = 0;
        to_block = 1;
        to_port = 0;
        label = record { tree = tree.Root; attr = attr.Literal 0 };
      }
      ∷ [];
}

kinds_row : kinds_over [] drained_root ≡ RootKind ∷ DrainKind ∷ []
kinds_row = refl

drain_fits : Consistent [] drained_root
drain_fits zero l = record { streams = tt; back = refl; well = tt }
drain_fits (suc zero) l = record { streams = ((0, omega arith, Some 0, refl), tt); back = refl; well = tt }
drain_fits (suc (suc b)) l = absurd (omega (arith, l))

makes_row : MakesFor [] drained_root (RootKind ∷ DrainKind ∷ [])
makes_row = record { own = refl; consistent = drain_fits }

-- the kinds in another order are not the graph's
wrong_order : MakesFor [] drained_root (DrainKind ∷ RootKind ∷ []) → ⊥
wrong_order h = let e : DrainKind ∷ RootKind ∷ [] ≡ RootKind ∷ DrainKind ∷ [] = h.own in absurd (cc)

-- blocks that are just their kinds, at no place but this
started : AreAtStart {B = Kind} (λ k. k) (λ k s n. n ≡ 0) (RootKind ∷ DrainKind ∷ [])
started b x at s fits = refl
