-- A block puts a token.
use Rattle.std.specs.Prelude.{◌≡◌, ◌<◌, ℕ, ◌+◌, ◌-◌, ◌^◌, min, Bool, true, false, not, cond, List, [], ◌∷◌, ◌++◌}
use Rattle.std.specs.Prelude.{length, set, slice_get, get_or, Some, None, refl}
use Rattle.std.proofs.Common.{arith, sym, ◌∙◌, ap, subst}
use Rattle.std.proofs.Math.Logic.{∥∥₁_elim, ∥∥₁_map}
use Rattle.std.specs.Coded.{le_prop}
use Rattle.stream_tokens.specs.declared.Token.{Token}
use Rattle.block_core.specs.declared.BlockStep.{Ghosts}
use Rattle.block_core.specs.declared.Wish.TheVariants.{Put}
use Rattle.block_core.specs.Move.{Putting}
use Rattle.block_core.specs.Ports.{Streams}
use Rattle.block_core.specs.Kind.{moves}
use Rattle.graph.specs.Wiring.{out_of}
use Rattle.graph.specs.WholeStreams.{whole_inputs}
use Rattle.plays.specs.Net.{Waits, can, raise, waiting, has_room}
use Rattle.plays.proofs.Waiting.{waits_length, waits_put, waits_put_there, can_put}
use Rattle.plays.specs.Held.{Queued, Held, at_port}
use Rattle.stepper.specs.NetOf.{net_of, rooms_of}
use Rattle.stepper.specs.AtState.{AtState, Somewhere}
use Rattle.plays.specs.Told.{Tapped, Grew, one_told, HasLists}
use Rattle.stepper.specs.Steps.{Wishes, WaitsOn, Moved, hindrance_of}
use Rattle.plays.proofs.Lists.{some_in}
use Rattle.plays.proofs.Tellings.{told_put, not_full}
use Rattle.stepper.proofs.Wires.{wired}
use Rattle.stepper.proofs.Moving.{machine_after, stands_moved, put_facts}

is_full : (b : Bool) → not b ≡ true → b ≡ false
is_full true e = absurd (cc)
is_full false e = refl

module _ {B : Type 0} (step : Ghosts B) (m : Held B) (b p : ℕ) (t : Token) where
  pub put_block : ∥ (Somewhere step m) ∥₁ → Wishes step b (Put p t) m → b < length m.routes.outs.first
  put_block sits wishes = ∥∥₁_elim sits le_prop (λ r. (put_facts step r.0 r.1 r.2 r.3 m r.4 b p t wishes).1)

  pub put_place : ∥ (Somewhere step m) ∥₁ → Wishes step b (Put p t) m → get_or m.routes.outs.first b 0 + p < length m.routes.outs.channels
  put_place sits wishes = ∥∥₁_elim sits le_prop (λ r. (put_facts step r.0 r.1 r.2 r.3 m r.4 b p t wishes).2)

  pub put_queue : ∥ (Somewhere step m) ∥₁ → Wishes step b (Put p t) m → at_port m.routes.outs b p < length m.queues
  put_queue sits wishes = ∥∥₁_elim sits le_prop (λ r.
      let f = put_facts step r.0 r.1 r.2 r.3 m r.4 b p t wishes in
      omega (arith, f.3, f.4))

  -- on a full channel nothing is put
  pub put_hindered : Wishes step b (Put p t) m → (c : ℕ) → c ≡ at_port m.routes.outs b p → (q : Queued) → slice_get m.queues c ≡ Some q
      → not (has_room q.room (length q.tokens)) ≡ true → WaitsOn step b c true m
  put_hindered wishes c at q qat full storages g caps s h =
      let net = net_of storages g in
      let rooms = rooms_of caps in
      let f = put_facts step storages g caps s m h b p t wishes in
      let here : c ≡ out_of g b p = at ∙ f.3 in
      let own = h.queues c q qat in
      let w : Waits net s (out_of g b p) q.tokens = subst (λ n. Waits net s n q.tokens) here own.1 in
      let room : has_room (rooms (out_of g b p)) (waiting net s (out_of g b p)) ≡ false =
      ap (has_room (rooms (out_of g b p))) (waits_length net s (out_of g b p) q.tokens w)
      ∙ ap (λ n. has_room (rooms n) (length q.tokens)) (sym here)
      ∙ ap (λ r. has_room r (length q.tokens)) (sym own.0) ∙ is_full _ full in
      ap (hindrance_of net rooms s b) f.0
      ∙ ap (λ z. cond z None (Some (out_of g b p, true))) room
      ∙ ap (λ n. Some (n, true)) (sym here)

  -- the block may be told that it put
  pub put_may : Wishes step b (Put p t) m → b < length m.blocks → ∥ (Somewhere step m) ∥₁
      → ∥ ((x : B) × (s : Streams) × (n : ℕ) × (port : ℕ) × (t : Token) × (slice_get m.blocks b ≡ Some x) × step.stands x s n × (slice_get (moves (step.kind x) s) n ≡ Some (Putting port t))) ∥₁
  put_may wishes lb sits = ∥∥₁_map sits (λ r.
      let h = r.4 in
      let f = put_facts step r.0 r.1 r.2 r.3 m h b p t wishes in
      let x = some_in m.blocks b lb in (
        x.0,
        whole_inputs r.0 r.1 b,
        r.3 b,
        p,
        t,
        x.1,
        h.standing.placed b x.0 x.1,
        ap (λ k. slice_get (moves k (whole_inputs r.0 r.1 b)) (r.3 b)) (h.standing.kinds b x.0 x.1) ∙ f.0,
      ))

  -- it has put it
  pub put : Wishes step b (Put p t) m → b < length m.blocks → (c : ℕ) → c ≡ at_port m.routes.outs b p → (q : Queued) → slice_get m.queues c ≡ Some q
      → not (has_room q.room (length q.tokens)) ≡ false
      → (bs : List B) → ((x : B) → slice_get m.blocks b ≡ Some x → (y : B) × (bs ≡ set m.blocks b y) × (step.kind y ≡ step.kind x)
      × ((s : Streams) (n : ℕ) (port : ℕ) (t : Token) → step.stands x s n → slice_get (moves (step.kind x) s) n ≡ Some (Putting port t) → step.stands y s (n + 1)))
      → (qs : List Queued) → qs ≡ set m.queues c (record { tokens = q.tokens ++ t ∷ []; room = q.room })
      → (n : ℕ) → n ≡ min (m.moves + 1) (2 ^ 64 - 1)
      → (told told' : Tapped) → HasLists (length m.queues) told → told' ≡ one_told c t told
      → Moved step b m told (record { blocks = bs; queues = qs; moves = n; routes = m.routes }) told'
  put wishes lb c at q qat open_ bs done qs pushed n counted told told' lists tells storages g caps s h =
      let net = net_of storages g in
      let rooms = rooms_of caps in
      let f = put_facts step storages g caps s m h b p t wishes in
      let wire = wired storages g h.well_formed h.consistent in
      let here : c ≡ out_of g b p = at ∙ f.3 in
      let own = h.queues c q qat in
      let w : Waits net s (out_of g b p) q.tokens = subst (λ k. Waits net s k q.tokens) here own.1 in
      let room : has_room (rooms (out_of g b p)) (length q.tokens) ≡ true =
      ap (λ n. has_room (rooms n) (length q.tokens)) (sym here)
      ∙ ap (λ r. has_room r (length q.tokens)) (sym own.0) ∙ not_full _ open_ in
      let possible : can net rooms s b ≡ true = can_put net rooms s b p t q.tokens f.0 w ∙ room in
      let x = some_in m.blocks b lb in
      let y = done x.0 x.1 in
      let q' : Queued = record { tokens = q.tokens ++ t ∷ []; room = q.room } in
      let move : slice_get (moves (step.kind x.0) (whole_inputs storages g b)) (s b) ≡ Some (Putting p t) =
      ap (λ k. slice_get (moves k (whole_inputs storages g b)) (s b)) (h.standing.kinds b x.0 x.1) ∙ f.0 in
      let stood : step.stands y.0 (whole_inputs storages g b) (s b + 1) = y.3 (whole_inputs storages g b) (s b) p t (h.standing.placed b x.0 x.1) move in
      let waits : Waits net (raise b s) c (q.tokens ++ t ∷ []) =
      subst (λ k. Waits net (raise b s) k (q.tokens ++ t ∷ [])) (sym here) (waits_put net s b p t q.tokens wire f.0 w) in
      let at' : AtState step storages g caps (raise b s) (machine_after m b y.0 c q') =
      stands_moved step storages g caps s m h b x.0 y.0 c q q' possible x.1 y.2 stood qat refl waits
      (λ d r ld other old. waits_put_there net s b p t d r wire f.0 ld (λ z. other (z ∙ sym here)) old) in
      let same : machine_after m b y.0 c q' ≡ record { blocks = bs; queues = qs; moves = n; routes = m.routes } =
      ap (λ z. record { blocks = z; queues = set m.queues c q'; moves = min (m.moves + 1) (2 ^ 64 - 1); routes = m.routes }) (sym y.1)
      ∙ ap (λ z. record { blocks = bs; queues = z; moves = min (m.moves + 1) (2 ^ 64 - 1); routes = m.routes }) (sym pushed)
      ∙ ap (λ z. record { blocks = bs; queues = qs; moves = z; routes = m.routes }) (sym counted) in
      let told_here : Grew net s (raise b s) told (one_told (out_of g b p) t told) =
      told_put net s b p t told wire f.0 (subst (λ k. HasLists k told) h.queues_number lists) in (
        possible,
        subst (AtState step storages g caps (raise b s)) same at',
        subst (Grew net s (raise b s) told) (ap (λ k. one_told k t told) (sym here) ∙ sym tells) told_here,
      )
