-- An event of the machine: it stands where the event leads.
use Rattle.std.specs.Prelude.{◌≡◌, ◌<◌, ℕ, ◌+◌, ◌-◌, ◌^◌, min, true, List, length, set, slice_get, get_or, Option, Some}
use Rattle.std.proofs.Common.{arith, sym, ◌∙◌, ap, subst, inl, inr}
use Rattle.std.proofs.lemmas.Bool.{cases_eq}
use Rattle.std.proofs.lemmas.Option.{slice_get_within}
use Rattle.stream_tokens.specs.declared.Token.{Token}
use Rattle.sam_model.specs.Children.{Ranked}
use Rattle.block_core.specs.declared.BlockStep.{Ghosts}
use Rattle.block_core.specs.declared.Wish.TheVariants.{Take, Put}
use Rattle.block_core.specs.Move.{Taking, Putting}
use Rattle.graph.specs.declared.graphs.Graph.{Graph}
use Rattle.graph.specs.Meaning.{meaning}
use Rattle.graph.specs.Wiring.{block, into, out_of}
use Rattle.graph.specs.WholeStreams.{whole_inputs}
use Rattle.graph.specs.Standing.{block_moves}
use Rattle.plays.specs.Net.{State, Waits, can, raise, sum_below}
use Rattle.plays.proofs.Event.{raise_here, raise_there}
use Rattle.plays.proofs.Sums.{raise_sum}
use Rattle.plays.proofs.Always.{event_kept, in_net}
use Rattle.plays.specs.Held.{Queued, Held, at_port}
use Rattle.stepper.specs.NetOf.{net_of, rooms_of}
use Rattle.stepper.specs.AtState.{AtState, QueueOf}
use Rattle.plays.proofs.Rests.{counted_more}
use Rattle.plays.proofs.Lists.{same_some, get_set_here, get_set_there}
use Rattle.stepper.specs.Steps.{Wishes}
use Rattle.stepper.proofs.Wishes.{wish_take, wish_put}
use Rattle.stepper.proofs.Wires.{wired, move_within, take_port, put_port}
use Rattle.std.proofs.lemmas.List.{length-set}

-- the machine after an event: one block, one queue and the count are new
abbrev pub machine_after : {B : Type 0} → Held B → ℕ → B → ℕ → Queued → Held B
machine_after m b y c q = record {
  blocks = set m.blocks b y;
  queues = set m.queues c q;
  moves = min (m.moves + 1) (2 ^ 64 - 1);
  routes = m.routes;
}

module _ {B : Type 0} (step : Ghosts B) (storages : List Ranked) (g : Graph) (caps : List (Option ℕ)) where
  -- an event is possible, its block and its queue are where it leads, and nothing else changed
  pub stands_moved : (s : State) (m : Held B) → AtState step storages g caps s m
      → (b : ℕ) (x y : B) (c : ℕ) (q q' : Queued)
      → can (net_of storages g) (rooms_of caps) s b ≡ true
      → slice_get m.blocks b ≡ Some x → step.kind y ≡ step.kind x → step.stands y (whole_inputs storages g b) (s b + 1)
      → slice_get m.queues c ≡ Some q → q'.room ≡ q.room → Waits (net_of storages g) (raise b s) c q'.tokens
      → ((d : ℕ) (r : List Token) → d < length g.channels → (d ≡ c → ⊥) → Waits (net_of storages g) s d r → Waits (net_of storages g) (raise b s) d r)
      → AtState step storages g caps (raise b s) (machine_after m b y c q')
  stands_moved s m h b x y c q q' possible at k st qat room waits others =
      let w = wired storages g h.well_formed h.consistent in
      let net = net_of storages g in
      let l : b < length g.blocks = in_net net (rooms_of caps) s b w possible in
      let lb : b < length m.blocks = slice_get_within m.blocks b x at in
      let lc : c < length m.queues = slice_get_within m.queues c q qat in
      let own = h.standing in
      record {
        well_formed = h.well_formed;
        consistent = h.consistent;
        standing = record {
          number = length-set m.blocks b y ∙ own.number;
          kinds = λ d z e. elim (cases_eq d b) [
            | inl same ↦
                let f : slice_get (set m.blocks b y) b ≡ Some z = subst (λ n. slice_get (set m.blocks b y) n ≡ Some z) same e in
                let yz : y ≡ z = same_some y z (sym (get_set_here m.blocks b y lb) ∙ f) in
                ap step.kind (sym yz) ∙ k ∙ own.kinds b x at ∙ ap (λ n. meaning storages (block g n).kind) (sym same)
            | inr other ↦ own.kinds d z (sym (get_set_there m.blocks b d y other) ∙ e)
          ];
          placed = λ d z e. elim (cases_eq d b) [
            | inl same ↦
                let f : slice_get (set m.blocks b y) b ≡ Some z = subst (λ n. slice_get (set m.blocks b y) n ≡ Some z) same e in
                let yz : y ≡ z = same_some y z (sym (get_set_here m.blocks b y lb) ∙ f) in
                let one : s b + 1 ≡ raise b s b = let r = raise_here b s in omega (arith, r) in
                let here : step.stands z (whole_inputs storages g b) (raise b s b) =
                subst (λ u. step.stands u (whole_inputs storages g b) (raise b s b)) yz (subst (step.stands y (whole_inputs storages g b)) one st) in
                subst (λ n. step.stands z (whole_inputs storages g n) (raise b s n)) (sym same) here
            | inr other ↦
                subst (step.stands z (whole_inputs storages g d)) (sym (raise_there b s d other))
                (own.placed d z (sym (get_set_there m.blocks b d y other) ∙ e))
          ];
        };
        kept = event_kept net (rooms_of caps) w s b h.kept possible;
        queues_number = length-set m.queues c q' ∙ h.queues_number;
        queues = λ d r e. elim (cases_eq d c) [
          | inl same ↦
              let f : slice_get (set m.queues c q') c ≡ Some r = subst (λ n. slice_get (set m.queues c q') n ≡ Some r) same e in
              let qr : q' ≡ r = same_some q' r (sym (get_set_here m.queues c q' lc) ∙ f) in
              let here : QueueOf net (rooms_of caps) (raise b s) c q' = (room ∙ (h.queues c q qat).0, waits) in
              subst (λ n. QueueOf net (rooms_of caps) (raise b s) n r) (sym same) (subst (QueueOf net (rooms_of caps) (raise b s) c) qr here)
          | inr other ↦
              let f : slice_get m.queues d ≡ Some r = sym (get_set_there m.queues c d q' other) ∙ e in
              let ld : d < length m.queues = slice_get_within m.queues d r f in
              let old = h.queues d r f in
              (old.0, others d r.tokens (omega (arith, ld, h.queues_number)) other old.1)
        ];
        counted = counted_more (sum_below (length g.blocks) s) m.moves h.counted ∙ ap (λ n. min n (2 ^ 64 - 1)) (sym (raise_sum (length g.blocks) b s l));
        routed = h.routed;
      }

  -- a block that would take has its token, and its port's channel is in the table
  pub take_facts : (s : State) (m : Held B) → AtState step storages g caps s m → (b p : ℕ) → Wishes step b (Take p) m
      → (t : Token) × (slice_get (block_moves storages g b) (s b) ≡ Some (Taking p t)) × (b < length m.routes.ins.first)
      × (get_or m.routes.ins.first b 0 + p < length m.routes.ins.channels) × (at_port m.routes.ins b p ≡ into g b p) × (into g b p < length m.queues)
  take_facts s m h b p wishes =
      let next = wish_take (block_moves storages g b) (s b) p (wishes storages g caps s h) in
      let l : b < length g.blocks = move_within storages g b (s b) (Taking p next.0) next.1 in
      let lp : p < length (block g b).ins = take_port storages g b (s b) p next.0 h.well_formed h.consistent next.1 in
      let n = h.well_formed.in_named b p l lp in
      (next.0, next.1, omega (arith, l, h.routed.ins.blocks), h.routed.ins.within b p l lp, h.routed.ins.same b p l lp, omega (arith, n.0, h.queues_number))

  pub put_facts : (s : State) (m : Held B) → AtState step storages g caps s m → (b p : ℕ) (t : Token) → Wishes step b (Put p t) m
      → (slice_get (block_moves storages g b) (s b) ≡ Some (Putting p t)) × (b < length m.routes.outs.first)
      × (get_or m.routes.outs.first b 0 + p < length m.routes.outs.channels) × (at_port m.routes.outs b p ≡ out_of g b p) × (out_of g b p < length m.queues)
  put_facts s m h b p t wishes =
      let next = wish_put (block_moves storages g b) (s b) p t (wishes storages g caps s h) in
      let l : b < length g.blocks = move_within storages g b (s b) (Putting p t) next in
      let lp : p < length (block g b).outs = put_port storages g b (s b) p t h.well_formed h.consistent next in
      let n = h.well_formed.out_named b p l lp in
      (next, omega (arith, l, h.routed.outs.blocks), h.routed.outs.within b p l lp, h.routed.outs.same b p l lp, omega (arith, n.0, h.queues_number))
