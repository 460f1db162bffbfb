-- The blocks that aren't finished.
use Rattle.std.specs.Prelude.{◌≡◌, ◌<◌, ◌≤◌, ℕ, zero, suc, ◌^◌, true, false, List, [], ◌∷◌, ◌++◌, length, slice_get}
use Rattle.std.specs.Prelude.{Option, Some, None, refl}
use Rattle.std.proofs.Common.{arith, sym, ◌∙◌, ap, subst, inl, inr}
use Rattle.std.proofs.lemmas.Bool.{cases_eq, cases_lt}
use Rattle.std.proofs.lemmas.Option.{slice_get_past, slice_get_within}
use Rattle.std.proofs.Math.Logic.{∥∥₁_elim}
use Rattle.std.specs.Coded.{le_prop}
use Rattle.sam_base.specs.declared.faults.Waiting.{Waiting}
use Rattle.sam_model.specs.Children.{Ranked}
use Rattle.stream_tokens.specs.declared.Token.{Token}
use Rattle.block_core.specs.declared.BlockStep.{Ghosts}
use Rattle.block_core.specs.declared.Wish.TheVariants.{Take, Put, Finished as WishFinished}
use Rattle.block_core.specs.Move.{Move, Taking, Putting}
use Rattle.graph.specs.declared.graphs.Graph.{Graph}
use Rattle.graph.specs.WholeStreams.{whole_inputs}
use Rattle.graph.specs.Standing.{block_moves, StandAt, final_position}
use Rattle.plays.specs.Net.{Net, State, Rooms, Finished, WithinBounds}
use Rattle.plays.specs.Held.{Held, at_port}
use Rattle.stepper.specs.NetOf.{net_of}
use Rattle.stepper.specs.AtState.{Somewhere, Wherever}
use Rattle.stepper.specs.Steps.{Wishes}
use Rattle.stepper.specs.Endings.{waiting_for, waiting_below, waiting_list}
use Rattle.stepper.proofs.Wishes.{wish_finished}
use Rattle.stepper.proofs.Moving.{take_facts, put_facts}

module _ {B : Type 0} (step : Ghosts B) (m : Held B) where
  pub few_blocks : ∥ (Somewhere step m) ∥₁ → length m.blocks < 2 ^ 32
  few_blocks sits = ∥∥₁_elim sits le_prop (λ r. omega (arith, r.4.routed.few, r.4.standing.number))

  pub waits_take : (b p c : ℕ) → Wishes step b (Take p) m → c ≡ at_port m.routes.ins b p
      → Wherever step m (λ net rooms s. (record { block = b; channel = c; full = false } ∷ []) ≡ waiting_for net b (slice_get (net.moves b) (s b)))
  waits_take b p c wishes at storages g caps s h =
      let f = take_facts step storages g caps s m h b p wishes in
      let here = at ∙ f.4 in
      ap (λ n. record { block = b; channel = n; full = false } ∷ []) here ∙ sym (ap (waiting_for (net_of storages g) b) f.1)

  pub waits_put : (b p c : ℕ) (t : Token) → Wishes step b (Put p t) m → c ≡ at_port m.routes.outs b p
      → Wherever step m (λ net rooms s. (record { block = b; channel = c; full = true } ∷ []) ≡ waiting_for net b (slice_get (net.moves b) (s b)))
  waits_put b p c t wishes at storages g caps s h =
      let f = put_facts step storages g caps s m h b p t wishes in
      let here = at ∙ f.3 in
      ap (λ n. record { block = b; channel = n; full = true } ∷ []) here ∙ sym (ap (waiting_for (net_of storages g) b) f.0)

  pub waits_none : (b : ℕ) → Wishes step b WishFinished m
      → Wherever step m (λ net rooms s. [] ≡ waiting_for net b (slice_get (net.moves b) (s b)))
  waits_none b wishes storages g caps s h =
      let e = wish_finished (block_moves storages g b) (s b) (h.kept.within b) (wishes storages g caps s h) in
      sym (ap (waiting_for (net_of storages g) b) (slice_get_past (block_moves storages g b) (s b) (omega (arith, e))))

-- ---- the list of them

none_waits : (net : Net) (b : ℕ) (o : Option Move) → waiting_for net b o ≡ [] → o ≡ None
none_waits net b None e = refl
none_waits net b (Some (Taking p t)) e = absurd (cc)
none_waits net b (Some (Putting p t)) e = absurd (cc)

no_more : (ms : List Move) (n : ℕ) → n ≤ length ms → slice_get ms n ≡ None → n ≡ length ms
no_more [] n l e = omega (arith, l)
no_more (m ∷ ms) zero l e = absurd (cc)
no_more (m ∷ ms) (suc n) l e = ap suc (no_more ms n (omega (arith, l)) e)

nil_left : (xs ys : List Waiting) → xs ++ ys ≡ [] → xs ≡ []
nil_left [] ys e = refl
nil_left (x ∷ xs) ys e = absurd (cc)

nil_right : (xs ys : List Waiting) → xs ++ ys ≡ [] → ys ≡ []
nil_right [] ys e = e
nil_right (x ∷ xs) ys e = absurd (cc)

none_below : (net : Net) (s : State) → ((b : ℕ) → s b ≤ length (net.moves b)) → (n b : ℕ) → b < n → waiting_below net s n ≡ [] → s b ≡ length (net.moves b)
none_below net s within zero b l e = absurd (omega (arith, l))
none_below net s within (suc n) b l e =
    elim (cases_eq b n) [
      | inl same ↦
          let last = nil_right (waiting_below net s n) (waiting_for net n (slice_get (net.moves n) (s n))) e in
          subst (λ x. s x ≡ length (net.moves x)) (sym same)
          (no_more (net.moves n) (s n) (within n) (none_waits net n (slice_get (net.moves n) (s n)) last))
      | inr other ↦ none_below net s within n b (ne-below b n l other) (nil_left (waiting_below net s n) (waiting_for net n (slice_get (net.moves n) (s n))) e)
    ]
  where
    ne-below : (b n : ℕ) → b < suc n → (b ≡ n → ⊥) → b < n
    ne-below b n l other = elim (cases_lt b n) [
      | inl less ↦ less
      | inr more ↦ absurd (other (omega (arith, l, more)))
    ]

pub none_waiting : (net : Net) (rooms : Rooms) (s : State) → WithinBounds net rooms s → waiting_list net s ≡ [] → Finished net s
none_waiting net rooms s k e b l = none_below net s k.within net.blocks b l e

all_finished : (net : Net) (s : State) (n : ℕ) → ((b : ℕ) → b < n → s b ≡ length (net.moves b)) → waiting_below net s n ≡ []
all_finished net s zero h = refl
all_finished net s (suc n) h =
    let before : waiting_below net s n ≡ [] = all_finished net s n (λ b l. h b (omega (arith, l))) in
    let e = h n (omega arith) in
    let last : waiting_for net n (slice_get (net.moves n) (s n)) ≡ [] = ap (waiting_for net n) (slice_get_past (net.moves n) (s n) (omega (arith, e))) in
    ap (λ (z : List Waiting). z ++ waiting_for net n (slice_get (net.moves n) (s n))) before ∙ last

pub some_waiting : (net : Net) (s : State) → (waiting_list net s ≡ [] → ⊥) → Finished net s → ⊥
some_waiting net s some h = some (all_finished net s net.blocks h)

-- the blocks of a finished machine are at the end of their moves
pub stand_end : {B : Type 0} (step : Ghosts B) (storages : List Ranked) (g : Graph) (s : State) (bs : List B)
    → StandAt step.kind step.stands storages g s bs → Finished (net_of storages g) s → StandAt step.kind step.stands storages g (final_position storages g) bs
stand_end step storages g s bs own done = record {
  number = own.number;
  kinds = own.kinds;
  placed = λ b x at.
      let l = slice_get_within bs b x at in
      subst (step.stands x (whole_inputs storages g b)) (done b (omega (arith, l, own.number))) (own.placed b x at);
}

pub nil_of : (xs : List Waiting) → length xs ≡ 0 → xs ≡ []
nil_of [] e = refl
nil_of (x ∷ xs) e = absurd (omega (arith, e))
