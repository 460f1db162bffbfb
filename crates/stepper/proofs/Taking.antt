-- A block takes a token.
use Rattle.std.specs.Prelude.{◌≡◌, ◌<◌, ℕ, ◌+◌, ◌-◌, ◌^◌, min, true, false, cond, nat_lt, List, [], ◌∷◌, length, drop}
use Rattle.std.specs.Prelude.{set, slice_get, get_or, Some, None, refl}
use Rattle.std.proofs.Common.{arith, sym, ◌∙◌, ap, subst}
use Rattle.std.proofs.Math.Logic.{∥∥₁_elim, ∥∥₁_map}
use Rattle.std.specs.Coded.{le_prop}
use Rattle.stream_tokens.specs.declared.Token.{Token}
use Rattle.block_core.specs.declared.BlockStep.{Ghosts}
use Rattle.block_core.specs.declared.Wish.TheVariants.{Take}
use Rattle.block_core.specs.Move.{Taking}
use Rattle.block_core.specs.Ports.{Streams}
use Rattle.block_core.specs.Kind.{moves}
use Rattle.graph.specs.Wiring.{into}
use Rattle.graph.specs.WholeStreams.{whole_inputs}
use Rattle.plays.specs.Net.{Waits, can, raise, waiting}
use Rattle.plays.proofs.Waiting.{waits_length, waits_take, waits_take_there, front_next, can_take}
use Rattle.plays.specs.Held.{Queued, Held, at_port}
use Rattle.stepper.specs.NetOf.{net_of, rooms_of}
use Rattle.stepper.specs.AtState.{AtState, Somewhere}
use Rattle.plays.specs.Told.{Tapped}
use Rattle.stepper.specs.Steps.{Wishes, WaitsOn, Moved, hindrance_of}
use Rattle.plays.proofs.Lists.{some_in}
use Rattle.plays.proofs.Tellings.{told_take, front_first, front_length}
use Rattle.stepper.proofs.Wires.{wired}
use Rattle.stepper.proofs.Moving.{machine_after, stands_moved, take_facts}

no_front : (q : List Token) → slice_get q 0 ≡ None → length q ≡ 0
no_front [] e = refl
no_front (u ∷ q) e = absurd (cc)

module _ {B : Type 0} (step : Ghosts B) (m : Held B) (b p : ℕ) where
  pub take_block : ∥ (Somewhere step m) ∥₁ → Wishes step b (Take p) m → b < length m.routes.ins.first
  take_block sits wishes = ∥∥₁_elim sits le_prop (λ r. (take_facts step r.0 r.1 r.2 r.3 m r.4 b p wishes).2)

  pub take_place : ∥ (Somewhere step m) ∥₁ → Wishes step b (Take p) m → get_or m.routes.ins.first b 0 + p < length m.routes.ins.channels
  take_place sits wishes = ∥∥₁_elim sits le_prop (λ r. (take_facts step r.0 r.1 r.2 r.3 m r.4 b p wishes).3)

  pub take_queue : ∥ (Somewhere step m) ∥₁ → Wishes step b (Take p) m → at_port m.routes.ins b p < length m.queues
  take_queue sits wishes = ∥∥₁_elim sits le_prop (λ r.
      let f = take_facts step r.0 r.1 r.2 r.3 m r.4 b p wishes in
      omega (arith, f.4, f.5))

  -- from an empty channel nothing is taken
  pub take_hindered : Wishes step b (Take p) m → (c : ℕ) → c ≡ at_port m.routes.ins b p → (q : Queued) → slice_get m.queues c ≡ Some q
      → slice_get q.tokens 0 ≡ None → WaitsOn step b c false m
  take_hindered wishes c at q qat none storages g caps s h =
      let net = net_of storages g in
      let f = take_facts step storages g caps s m h b p wishes in
      let here : c ≡ into g b p = at ∙ f.4 in
      let w : Waits net s (into g b p) q.tokens = subst (λ n. Waits net s n q.tokens) here (h.queues c q qat).1 in
      let zero : waiting net s (into g b p) ≡ 0 = waits_length net s (into g b p) q.tokens w ∙ no_front q.tokens none in
      ap (hindrance_of net (rooms_of caps) s b) f.1
      ∙ ap (λ n. cond (nat_lt 0 n) None (Some (into g b p, false))) zero
      ∙ ap (λ n. Some (n, false)) (sym here)

  -- the block may be asked to take the front
  pub take_may : Wishes step b (Take p) m → b < length m.blocks → (c : ℕ) → c ≡ at_port m.routes.ins b p → (q : Queued) → slice_get m.queues c ≡ Some q
      → (t : Token) → slice_get q.tokens 0 ≡ Some t → ∥ (Somewhere step m) ∥₁
      → ∥ ((x : B) × (s : Streams) × (n : ℕ) × (slice_get m.blocks b ≡ Some x) × step.stands x s n × (slice_get (moves (step.kind x) s) n ≡ Some (Taking p t))) ∥₁
  take_may wishes lb c at q qat t front sits = ∥∥₁_map sits (λ r.
      let net = net_of r.0 r.1 in
      let h = r.4 in
      let f = take_facts step r.0 r.1 r.2 r.3 m h b p wishes in
      let here : c ≡ into r.1 b p = at ∙ f.4 in
      let w : Waits net r.3 (into r.1 b p) q.tokens = subst (λ n. Waits net r.3 n q.tokens) here (h.queues c q qat).1 in
      let first : Waits net r.3 (into r.1 b p) (t ∷ drop 1 q.tokens) = subst (Waits net r.3 (into r.1 b p)) (front_first q.tokens t front) w in
      let next : t ≡ f.0 = front_next net r.3 b p f.0 t (drop 1 q.tokens) (wired r.0 r.1 h.well_formed h.consistent) f.1 first in
      let x = some_in m.blocks b lb in (
        x.0,
        whole_inputs r.0 r.1 b,
        r.3 b,
        x.1,
        h.standing.placed b x.0 x.1,
        ap (λ k. slice_get (moves k (whole_inputs r.0 r.1 b)) (r.3 b)) (h.standing.kinds b x.0 x.1)
            ∙ f.1 ∙ ap (λ u. Some (Taking p u)) (sym next),
      ))

  -- it has taken it
  pub took : Wishes step b (Take p) m → b < length m.blocks → (c : ℕ) → c ≡ at_port m.routes.ins b p → (q : Queued) → slice_get m.queues c ≡ Some q
      → (t : Token) → slice_get q.tokens 0 ≡ Some t
      → (bs : List B) → ((x : B) → slice_get m.blocks b ≡ Some x → (y : B) × (bs ≡ set m.blocks b y) × (step.kind y ≡ step.kind x)
      × ((s : Streams) (n : ℕ) → step.stands x s n → slice_get (moves (step.kind x) s) n ≡ Some (Taking p t) → step.stands y s (n + 1)))
      → (qs : List Queued) → qs ≡ set m.queues c (record { tokens = drop 1 q.tokens; room = q.room })
      → (n : ℕ) → n ≡ min (m.moves + 1) (2 ^ 64 - 1)
      → (told : Tapped) → Moved step b m told (record { blocks = bs; queues = qs; moves = n; routes = m.routes }) told
  took wishes lb c at q qat t front bs taken qs popped n counted told storages g caps s h =
      let net = net_of storages g in
      let f = take_facts step storages g caps s m h b p wishes in
      let wire = wired storages g h.well_formed h.consistent in
      let here : c ≡ into g b p = at ∙ f.4 in
      let w : Waits net s (into g b p) q.tokens = subst (λ k. Waits net s k q.tokens) here (h.queues c q qat).1 in
      let first : Waits net s (into g b p) (t ∷ drop 1 q.tokens) = subst (Waits net s (into g b p)) (front_first q.tokens t front) w in
      let next : t ≡ f.0 = front_next net s b p f.0 t (drop 1 q.tokens) wire f.1 first in
      let move : slice_get (net.moves b) (s b) ≡ Some (Taking p t) = f.1 ∙ ap (λ u. Some (Taking p u)) (sym next) in
      let possible : can net (rooms_of caps) s b ≡ true = can_take net (rooms_of caps) s b p t q.tokens move w ∙ front_length q.tokens t front in
      let x = some_in m.blocks b lb in
      let y = taken x.0 x.1 in
      let q' : Queued = record { tokens = drop 1 q.tokens; room = q.room } in
      let own : slice_get (moves (step.kind x.0) (whole_inputs storages g b)) (s b) ≡ Some (Taking p t) =
      ap (λ k. slice_get (moves k (whole_inputs storages g b)) (s b)) (h.standing.kinds b x.0 x.1) ∙ move in
      let stood : step.stands y.0 (whole_inputs storages g b) (s b + 1) = y.3 (whole_inputs storages g b) (s b) (h.standing.placed b x.0 x.1) own in
      let waits : Waits net (raise b s) c (drop 1 q.tokens) = subst (λ k. Waits net (raise b s) k (drop 1 q.tokens)) (sym here) (waits_take net s b p t (drop 1 q.tokens) wire move first) in
      let at' : AtState step storages g caps (raise b s) (machine_after m b y.0 c q') =
      stands_moved step storages g caps s m h b x.0 y.0 c q q' possible x.1 y.2 stood qat refl waits
      (λ d r ld other old. waits_take_there net s b p t d r wire move ld (λ z. other (z ∙ sym here)) old) in
      let same : machine_after m b y.0 c q' ≡ record { blocks = bs; queues = qs; moves = n; routes = m.routes } =
      ap (λ z. record { blocks = z; queues = set m.queues c q'; moves = min (m.moves + 1) (2 ^ 64 - 1); routes = m.routes }) (sym y.1)
      ∙ ap (λ z. record { blocks = bs; queues = z; moves = min (m.moves + 1) (2 ^ 64 - 1); routes = m.routes }) (sym popped)
      ∙ ap (λ z. record { blocks = bs; queues = qs; moves = z; routes = m.routes }) (sym counted) in
      (possible, subst (AtState step storages g caps (raise b s)) same at', told_take net s b p t told move)

-- a machine that moved stands somewhere
pub somewhere_after : {B : Type 0} (step : Ghosts B) (m m' : Held B) (b : ℕ) (told told' : Tapped)
    → Moved step b m told m' told' → ∥ (Somewhere step m) ∥₁ → ∥ (Somewhere step m') ∥₁
somewhere_after step m m' b told told' moves sits =
    ∥∥₁_map sits (λ r. (r.0, r.1, r.2, raise b r.3, (moves r.0 r.1 r.2 r.3 r.4).1))
