-- From a machine to one block's ends, and back.
use Rattle.std.specs.Prelude.{◌≡◌, ◌<◌, ◌≤◌, ℕ, zero, suc, ◌+◌, Bool, true, List, length, take, drop, set}
use Rattle.std.specs.Prelude.{slice_get, get_or, Option, Some, Result, Ok, Err, IfOk, IfErr, false}
use Rattle.std.proofs.Common.{arith, sym, ◌∙◌, ap, subst, length-drop, inl, inr}
use Rattle.std.proofs.lemmas.Bool.{cases_eq}
use Rattle.std.proofs.lemmas.List.{get_or-drop, length-set, length-take, take-append-drop}
use Rattle.std.specs.Coded.{le_prop}
use Rattle.std.proofs.Math.Logic.{∥∥₁_elim, ∥∥₁_map}
use Rattle.sam_model.specs.Children.{Ranked}
use Rattle.block_core.specs.declared.BlockStep.{Ghosts}
use Rattle.block_core.specs.Move.{Move, Taking, Putting}
use Rattle.block_core.specs.Ports.{Streams}
use Rattle.block_core.specs.Kind.{moves}
use Rattle.graph.specs.declared.graphs.Graph.{Graph}
use Rattle.graph.specs.Meaning.{meaning}
use Rattle.graph.specs.Wiring.{block, channel, into}
use Rattle.graph.specs.WholeStreams.{whole_inputs}
use Rattle.graph.specs.Standing.{block_moves}
use Rattle.plays.specs.Net.{Net, Rooms, State, PlaysTo, sum_below}
use Rattle.plays.specs.Held.{Queued, Held}
use Rattle.plays.specs.Told.{Tapped, HasLists, Grew}
use Rattle.plays.specs.Rest.{ends_at, RestAt, BurstAt, MayBurst}
use Rattle.stepper.specs.NetOf.{net_of, rooms_of}
use Rattle.stepper.specs.AtState.{AtState, Somewhere}
use Rattle.stepper.specs.Bursting.{row_of, block_ends, OnwardsBy}
use Rattle.plays.proofs.Sums.{sum_same}
use Rattle.plays.proofs.Lists.{same_some, some_in, get_set_here, get_set_there}
use Rattle.stepper.proofs.Wires.{wired, move_within, take_port, put_port}

-- so many moves more of one block are so many more of all
sum_more : (n b k : ℕ) (s t : State) → b < n → t b ≡ s b + k → ((d : ℕ) → (d ≡ b → ⊥) → t d ≡ s d) → sum_below n t ≡ sum_below n s + k
sum_more zero b k s t l here there = absurd (omega (arith, l))
sum_more (suc n) b k s t l here there = elim (cases_eq n b) [
  | inl same ↦
      let e : t n ≡ s n + k = subst (λ x. t x ≡ s x + k) (sym same) here in
      let below = sum_same n s t (λ d ld. there d (λ z. omega (arith, z, same, ld))) in
      omega (arith, e, below)
  | inr other ↦
      let e : t n ≡ s n = there n other in
      let r = sum_more n b k s t (omega (arith, l, other)) here there in
      omega (arith, e, r)
]

module _ {B : Type 0} (step : Ghosts B) (storages : List Ranked) (g : Graph) (caps : List (Option ℕ)) where
  pub rest_of : (s : State) (m : Held B) (told : Tapped) (b : ℕ)
      → AtState step storages g caps s m → HasLists (length m.queues) told → RestAt (net_of storages g) (rooms_of caps) s (block_ends m told b)
  rest_of s m told b h lists = record {
    wired = wired storages g h.well_formed h.consistent;
    kept = h.kept;
    queues_number = h.queues_number;
    queues = h.queues;
    counted = h.counted;
    lists = lists;
    ins = λ n p t e.
        let l : b < length g.blocks = move_within storages g b n (Taking p t) e in
        let lp : p < length (block g b).ins = take_port storages g b n p t h.well_formed h.consistent e in
        let i = h.routed.ins.within b p l lp in
        let d = length-drop (get_or m.routes.ins.first b 0) m.routes.ins.channels in
        (omega (arith, i, d), get_or-drop (get_or m.routes.ins.first b 0) m.routes.ins.channels p 0 ∙ h.routed.ins.same b p l lp);
    outs = λ n p t e.
        let l : b < length g.blocks = move_within storages g b n (Putting p t) e in
        let lp : p < length (block g b).outs = put_port storages g b n p t h.well_formed h.consistent e in
        let i = h.routed.outs.within b p l lp in
        let d = length-drop (get_or m.routes.outs.first b 0) m.routes.outs.channels in
        (omega (arith, i, d), get_or-drop (get_or m.routes.outs.first b 0) m.routes.outs.channels p 0 ∙ h.routed.outs.same b p l lp);
    apart = λ n k p q t u e f same.
        let l : b < length g.blocks = move_within storages g b n (Taking p t) e in
        let in_named = h.well_formed.in_named b p l (take_port storages g b n p t h.well_formed h.consistent e) in
        let out_named = h.well_formed.out_named b q l (put_port storages g b k q u h.well_formed h.consistent f) in
        let rank = h.well_formed.forwards.0 in
        let rises = h.well_formed.forwards.1 (into g b p) in_named.0 in
        let from : (channel g (into g b p)).from_block ≡ b = ap (λ c. (channel g c).from_block) same ∙ out_named.1 in
        let to : (channel g (into g b p)).to_block ≡ b = in_named.1 in
        let low : rank (channel g (into g b p)).from_block ≡ rank b = ap rank from in
        let high : rank (channel g (into g b p)).to_block ≡ rank b = ap rank to in
        omega (arith, rises, low, high);
  }

  -- Where a burst of one block leads, the machine stands.
  pub burst_at_state : ((x : B) (s : Streams) (n : ℕ) → step.stands x s n → n ≤ length (moves (step.kind x) s))
      → (s : State) (m : Held B) (told : Tapped) (b : ℕ) (went : Bool) (bs : List B) (qs : List Queued) (n : ℕ) (told' : Tapped)
      → b < length m.blocks → HasLists (length m.queues) told
      → BurstAt step m.blocks (block_ends m told b) bs (ends_at qs told' n b (row_of m.routes.ins b) (row_of m.routes.outs b)) went
      → AtState step storages g caps s m
      → (t : State) × PlaysTo (net_of storages g) (rooms_of caps) s t
      × AtState step storages g caps t (record { blocks = bs; queues = qs; moves = n; routes = m.routes }) × Grew (net_of storages g) s t told told'
      × (sum_below (length g.blocks) s ≤ sum_below (length g.blocks) t) × (went ≡ true → sum_below (length g.blocks) s < sum_below (length g.blocks) t)
  burst_at_state within s m told b went bs qs n told' lb lists burst h =
      let net : Net = net_of storages g in
      let rooms : Rooms = rooms_of caps in
      let own = h.standing in
      let x = some_in m.blocks b lb in
      let y = burst x.0 x.1 in
      let kinds : moves (step.kind x.0) (whole_inputs storages g b) ≡ block_moves storages g b =
      ap (λ k. moves k (whole_inputs storages g b)) (own.kinds b x.0 x.1) in
      let ms : List Move = drop (s b) (moves (step.kind x.0) (whole_inputs storages g b)) in
      let same : ms ≡ drop (s b) (block_moves storages g b) = ap (drop (s b)) kinds in
      let r = rest_of s m told b h lists in
      let p = y.3 (whole_inputs storages g b) (s b) (own.placed b x.0 x.1) (net, rooms, s, r, sym same) in
      let k : ℕ = p.0 in
      let made = p.3 in
      let a = made.advances net rooms s (drop k ms) r (sym same ∙ sym (take-append-drop k ms)) in
      let t : State = a.0 in
      let ends : s b + k ≤ length (moves (step.kind x.0) (whole_inputs storages g b)) =
      subst (λ z. s b + k ≤ length (moves z (whole_inputs storages g b))) y.2 (within y.0 (whole_inputs storages g b) (s b + k) p.2) in
      let long : length (take k ms) ≡ k =
      let i = length-take k ms in let j = length-drop (s b) (moves (step.kind x.0) (whole_inputs storages g b)) in omega (arith, i, j, ends) in
      let here : t b ≡ s b + k = let i = a.1.here in omega (arith, i, long) in
      let l : b < length g.blocks = let i = own.number in omega (arith, lb, i) in
      let sums = sum_more (length g.blocks) b k s t l here a.1.there in
      let q = a.2 in (
        t,
        a.1.leads,
        record {
          well_formed = h.well_formed;
          consistent = h.consistent;
          standing = record {
            number = ap length y.1 ∙ length-set m.blocks b y.0 ∙ own.number;
            kinds = λ d z f.
                let old : slice_get (set m.blocks b y.0) d ≡ Some z = subst (λ w. slice_get w d ≡ Some z) y.1 f in
                elim (cases_eq d b) [
                  | inl at ↦
                      let i : slice_get (set m.blocks b y.0) b ≡ Some z = subst (λ w. slice_get (set m.blocks b y.0) w ≡ Some z) at old in
                      let yz : y.0 ≡ z = same_some y.0 z (sym (get_set_here m.blocks b y.0 lb) ∙ i) in
                      ap step.kind (sym yz) ∙ y.2 ∙ own.kinds b x.0 x.1 ∙ ap (λ w. meaning storages (block g w).kind) (sym at)
                  | inr other ↦ own.kinds d z (sym (get_set_there m.blocks b d y.0 other) ∙ old)
                ];
            placed = λ d z f.
                let old : slice_get (set m.blocks b y.0) d ≡ Some z = subst (λ w. slice_get w d ≡ Some z) y.1 f in
                elim (cases_eq d b) [
                  | inl at ↦
                      let i : slice_get (set m.blocks b y.0) b ≡ Some z = subst (λ w. slice_get (set m.blocks b y.0) w ≡ Some z) at old in
                      let yz : y.0 ≡ z = same_some y.0 z (sym (get_set_here m.blocks b y.0 lb) ∙ i) in
                      let st : step.stands z (whole_inputs storages g b) (t b) =
                      subst (step.stands z (whole_inputs storages g b)) (sym here) (subst (λ w. step.stands w (whole_inputs storages g b) (s b + k)) yz p.2) in
                      subst (λ w. step.stands z (whole_inputs storages g w) (t w)) (sym at) st
                  | inr other ↦ subst (step.stands z (whole_inputs storages g d)) (sym (a.1.there d other)) (own.placed d z (sym (get_set_there m.blocks b d y.0 other) ∙ old))
                ];
          };
          kept = q.kept;
          queues_number = q.queues_number;
          queues = q.queues;
          counted = q.counted;
          routed = h.routed;
        },
        a.3,
        omega (arith, sums),
        λ z. let i = p.1 z in omega (arith, sums, i),
      )

module _ {B : Type 0} (step : Ghosts B) where
  pub burst_onwards : ((x : B) (s : Streams) (n : ℕ) → step.stands x s n → n ≤ length (moves (step.kind x) s))
      → (m : Held B) (told : Tapped) (b : ℕ) (went : Bool) (bs : List B) (qs : List Queued) (n : ℕ) (told' : Tapped)
      → b < length m.blocks → HasLists (length m.queues) told
      → BurstAt step m.blocks (block_ends m told b) bs (ends_at qs told' n b (row_of m.routes.ins b) (row_of m.routes.outs b)) went
      → OnwardsBy step m told (record { blocks = bs; queues = qs; moves = n; routes = m.routes }) told' went
  burst_onwards within m told b went bs qs n told' lb lists burst storages g caps s h =
      burst_at_state step storages g caps within s m told b went bs qs n told' lb lists burst h

  pub may_of : (m : Held B) (told : Tapped) (b : ℕ) → b < length m.blocks → HasLists (length m.queues) told
      → ∥ (Somewhere step m) ∥₁ → MayBurst step m.blocks (block_ends m told b)
  may_of m told b l lists sits = ∥∥₁_map sits (λ r.
      let h = r.4 in
      let x = some_in m.blocks b l in
      let kinds : moves (step.kind x.0) (whole_inputs r.0 r.1 b) ≡ block_moves r.0 r.1 b = ap (λ k. moves k (whole_inputs r.0 r.1 b)) (h.standing.kinds b x.0 x.1) in (
        x.0,
        x.1,
        whole_inputs r.0 r.1 b,
        r.3 b,
        h.standing.placed b x.0 x.1,
        (net_of r.0 r.1, rooms_of r.2, r.3, rest_of step r.0 r.1 r.2 r.3 m told b h lists, ap (drop (r.3 b)) (sym kinds)),
      ))

  pub row_ins : (m : Held B) (b : ℕ) → b < length m.blocks → ∥ (Somewhere step m) ∥₁ → b < length m.routes.ins.first
  row_ins m b l sits = ∥∥₁_elim sits le_prop (λ r. let h = r.4 in let n = h.standing.number in let k = h.routed.ins.blocks in omega (arith, l, n, k))

  pub row_outs : (m : Held B) (b : ℕ) → b < length m.blocks → ∥ (Somewhere step m) ∥₁ → b < length m.routes.outs.first
  row_outs m b l sits = ∥∥₁_elim sits le_prop (λ r. let h = r.4 in let n = h.standing.number in let k = h.routed.outs.blocks in omega (arith, l, n, k))

  -- the same with the rows as they were read
  pub may_rows : (m : Held B) (told : Tapped) (b : ℕ) (ins outs : List ℕ) → ins ≡ row_of m.routes.ins b → outs ≡ row_of m.routes.outs b
      → b < length m.blocks → HasLists (length m.queues) told
      → ∥ (Somewhere step m) ∥₁ → MayBurst step m.blocks (ends_at m.queues told m.moves b ins outs)
  may_rows m told b ins outs i o l lists sits =
      subst (λ z. MayBurst step m.blocks (ends_at m.queues told m.moves b z outs)) (sym i)
      (subst (λ z. MayBurst step m.blocks (ends_at m.queues told m.moves b (row_of m.routes.ins b) z)) (sym o)
      (may_of m told b l lists sits))

  pub onwards_rows : ((x : B) (s : Streams) (n : ℕ) → step.stands x s n → n ≤ length (moves (step.kind x) s))
      → (m : Held B) (told : Tapped) (b : ℕ) (ins outs : List ℕ) → ins ≡ row_of m.routes.ins b → outs ≡ row_of m.routes.outs b
      → (went : Bool) (bs : List B) (qs : List Queued) (n : ℕ) (told' : Tapped)
      → b < length m.blocks → HasLists (length m.queues) told
      → BurstAt step m.blocks (ends_at m.queues told m.moves b ins outs) bs (ends_at qs told' n b ins outs) went
      → OnwardsBy step m told (record { blocks = bs; queues = qs; moves = n; routes = m.routes }) told' went
  onwards_rows within m told b ins outs i o went bs qs n told' lb lists h =
      burst_onwards within m told b went bs qs n told' lb lists
      (subst (λ z. BurstAt step m.blocks (ends_at m.queues told m.moves b z (row_of m.routes.outs b)) bs (ends_at qs told' n b z (row_of m.routes.outs b)) went) i
      (subst (λ z. BurstAt step m.blocks (ends_at m.queues told m.moves b ins z) bs (ends_at qs told' n b ins z) went) o h))

  pub sits_on : (m : Held B) (told : Tapped) (m' : Held B) (told' : Tapped) (went : Bool)
      → OnwardsBy step m told m' told' went → ∥ (Somewhere step m) ∥₁ → ∥ (Somewhere step m') ∥₁
  sits_on m told m' told' went h sits = ∥∥₁_map sits (λ r. let o = h r.0 r.1 r.2 r.3 r.4 in (r.0, r.1, r.2, o.0, o.2))

pub either_way : {E : Type 0} (P : Bool → Type 0) (r : Result Bool E) → IfOk r P → IfErr r (λ _. P false) → (went : Bool) × P went
either_way P (Ok went) h k = (went, h)
either_way P (Err e) h k = (false, k)
