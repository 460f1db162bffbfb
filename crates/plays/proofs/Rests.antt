-- Moves of one block, as all but the blocks sees them.
use Rattle.std.specs.Prelude.{◌≡◌, ◌<◌, ℕ, suc, ◌+◌, ◌-◌, ◌^◌, min, Bool, true, false, not, List, [], ◌∷◌, ◌++◌}
use Rattle.std.proofs.lemmas.Option.{slice_get-get_or}
use Rattle.std.specs.Prelude.{length, drop, set, slice_get, get_or, Some, None, refl}
use Rattle.std.proofs.Common.{arith, sym, ◌∙◌, ap, subst, append_assoc, length-append, inl, inr}
use Rattle.std.proofs.lemmas.Bool.{cases_eq}
use Rattle.std.proofs.lemmas.List.{length-set}
use Rattle.std.proofs.lemmas.Option.{slice_get_within}
use Rattle.std.proofs.lemmas.List.{append_cancel_left}
use Rattle.std.proofs.Math.Logic.{∥∥₁_elim, ∥∥₁_map}
use Rattle.std.specs.Coded.{le_prop}
use Rattle.stream_tokens.specs.declared.Token.{Token}
use Rattle.block_core.specs.declared.BlockStep.{Ghosts}
use Rattle.block_core.specs.Move.{Move, Taking, Putting, takes, puts}
use Rattle.block_core.specs.Ports.{Streams}
use Rattle.block_core.specs.Kind.{moves}
use Rattle.block_core.specs.Bursts.{MayTakeNext, MayPutNext, MayPour, Poured}
use Rattle.block_core.proofs.Pouring.{at-place, drop-twice}
use Rattle.plays.specs.Net.{Net, Rooms, State, Waits, can, raise, got, sum_below, play, has_room}
use Rattle.plays.specs.Held.{Queued}
use Rattle.plays.specs.Told.{Tapped, HasLists, Grew, one_told}
use Rattle.plays.specs.Rest.{refilled, ends_at, BlockEnds, no_queue, in_queue, first_at, waits_at, RestAt, FedAt}
use Rattle.plays.specs.Rest.{AfterMoves, MadeAt, SameEnds, BurstAt, MayBurst}
use Rattle.plays.proofs.Event.{raise_here, raise_there}
use Rattle.plays.proofs.Sums.{raise_sum}
use Rattle.plays.proofs.Always.{event_kept, in_net, play_append, turn_made}
use Rattle.plays.proofs.Waiting.{waits_take, waits_take_there, waits_put, waits_put_there, sent_whole, got_whole}
use Rattle.plays.proofs.Waiting.{can_take, can_put}
use Rattle.plays.proofs.Lists.{same_some, get_set_here, get_set_there}
use Rattle.plays.proofs.Tellings.{grew_same, grew_then, told_put, told_take, front_first, front_length, lists_put}
use Rattle.plays.proofs.Tellings.{lists_fewer, not_full}

-- ---- no move, and moves after moves

pub made_none : (e : BlockEnds) → MadeAt e [] e
made_none e = record {
  block = refl;
  ins = refl;
  outs = refl;
  number = refl;
  lists = λ h. h;
  advances = λ net rooms s rest h left. (s, record { leads = ([], refl); here = omega arith; there = λ d other. refl }, h, grew_same net s e.told);
}

pub same_none : (e : BlockEnds) → SameEnds e e
same_none e = record { block = refl; ins = refl; outs = refl; number = refl; lists = λ h. h }

pub same_then : (e f g : BlockEnds) → SameEnds e f → SameEnds f g → SameEnds e g
same_then e f g a b = record { block = b.block ∙ a.block; ins = b.ins ∙ a.ins; outs = b.outs ∙ a.outs; number = b.number ∙ a.number; lists = λ h. b.lists (a.lists h) }

pub same_made : (e : BlockEnds) (ms : List Move) (f : BlockEnds) → MadeAt e ms f → SameEnds e f
same_made e ms f h = record { block = h.block; ins = h.ins; outs = h.outs; number = h.number; lists = h.lists }

-- what was undone
pub made_same : (e : BlockEnds) (qs : List Queued) (told : Tapped) → qs ≡ e.queues → told ≡ e.told
    → MadeAt e [] (refilled e qs told e.moves)
made_same e qs told q t =
    subst (λ z. MadeAt e [] (refilled e z told e.moves)) (sym q)
    (subst (λ z. MadeAt e [] (refilled e e.queues z e.moves)) (sym t) (made_none e))

left_after : (net : Net) (b : ℕ) (s t : State) (xs rest : List Move) → drop (s b) (net.moves b) ≡ xs ++ rest → t b ≡ s b + length xs
    → drop (t b) (net.moves b) ≡ rest
left_after net b s t xs rest left here =
    ap (λ n. drop n (net.moves b)) here ∙ sym (drop-twice (net.moves b) (s b) (length xs))
    ∙ ap (drop (length xs)) left ∙ past xs
  where
    past : (xs : List Move) → drop (length xs) (xs ++ rest) ≡ rest
    past [] = refl
    past (x ∷ xs) = past xs

pub made_then : (e f g : BlockEnds) (xs ys : List Move) → MadeAt e xs f → MadeAt f ys g → MadeAt e (xs ++ ys) g
made_then e f g xs ys a b = record {
  block = b.block ∙ a.block;
  ins = b.ins ∙ a.ins;
  outs = b.outs ∙ a.outs;
  number = b.number ∙ a.number;
  lists = λ h. b.lists (a.lists h);
  advances = λ net rooms s rest h left.
      let p = a.advances net rooms s (ys ++ rest) h (left ∙ append_assoc xs ys rest) in
      let t : State = p.0 in
      let there : drop (t f.block) (net.moves f.block) ≡ ys ++ rest =
      subst (λ n. drop (t n) (net.moves n) ≡ ys ++ rest) (sym a.block) (left_after net e.block s t xs (ys ++ rest) (left ∙ append_assoc xs ys rest) p.1.here) in
      let q = b.advances net rooms t rest p.2 there in
      let u : State = q.0 in
      let m : AfterMoves net rooms t e.block (length ys) u = subst (λ n. AfterMoves net rooms t n (length ys) u) a.block q.1 in (
        u,
        record {
          leads = (p.1.leads.0 ++ m.leads.0, m.leads.1 ∙ ap (λ (x : State). play net rooms x m.leads.0) p.1.leads.1 ∙ sym (play_append net rooms s p.1.leads.0 m.leads.0));
          here = omega (arith, m.here, p.1.here, length-append xs ys);
          there = λ d other. m.there d other ∙ p.1.there d other;
        },
        q.2,
        grew_then net s t u e.told f.told g.told p.3 q.3,
      );
}

pub fed_made : (e f : BlockEnds) (xs rest : List Move) → MadeAt e xs f → FedAt e (xs ++ rest) → FedAt f rest
fed_made e f xs rest a h =
    let p = a.advances h.0 h.1 h.2 rest h.3 h.4 in
    (h.0, h.1, p.0, p.2, subst (λ n. drop (p.0 n) (h.0.moves n) ≡ rest) (sym a.block) (left_after h.0 e.block h.2 p.0 xs rest h.4 p.1.here))

-- ---- the queue at an input

pub next_at : (e : BlockEnds) (net : Net) (s : State) (m : Move) (rest : List Move) → drop (s e.block) (net.moves e.block) ≡ m ∷ rest → slice_get (net.moves e.block) (s e.block) ≡ Some m
next_at e net s m rest left = at-place (net.moves e.block) (s e.block) m rest left

-- a block that takes next has a queue there
pub input_port : (e : BlockEnds) (p : ℕ) → MayTakeNext (FedAt e) p → p < length e.ins
input_port e p may = ∥∥₁_elim may le_prop (λ r.
    let f = r.2 in (f.3.ins (f.2 e.block) p r.0 (next_at e f.0 f.2 _ r.1 f.4)).0)

pub input_queue : (e : BlockEnds) (p : ℕ) → MayTakeNext (FedAt e) p → get_or e.ins p 0 < length e.queues
input_queue e p may = ∥∥₁_elim may le_prop (λ r.
    let f = r.2 in
    let at = next_at e f.0 f.2 _ r.1 f.4 in
    let here = (f.3.ins (f.2 e.block) p r.0 at).1 in
    let l = (f.3.wired.taken e.block (f.2 e.block) p r.0 at).2 in
    omega (arith, here, l, f.3.queues_number))

pub output_port : (e : BlockEnds) (p : ℕ) (t : Token) → MayPutNext (FedAt e) p t → p < length e.outs
output_port e p t may = ∥∥₁_elim may le_prop (λ r.
    let f = r.1 in (f.3.outs (f.2 e.block) p t (next_at e f.0 f.2 _ r.0 f.4)).0)

pub output_queue : (e : BlockEnds) (p : ℕ) (t : Token) → MayPutNext (FedAt e) p t → get_or e.outs p 0 < length e.queues
output_queue e p t may = ∥∥₁_elim may le_prop (λ r.
    let f = r.1 in
    let at = next_at e f.0 f.2 _ r.0 f.4 in
    let here = (f.3.outs (f.2 e.block) p t at).1 in
    let l = (f.3.wired.put e.block (f.2 e.block) p t at).2 in
    omega (arith, here, l, f.3.queues_number))

-- ---- one event

pub counted_more : (n m : ℕ) → m ≡ min n (2 ^ 64 - 1) → min (m + 1) (2 ^ 64 - 1) ≡ min (suc n) (2 ^ 64 - 1)
counted_more n m e = grind (arith)

-- all but the blocks after an event
abbrev ends_after : BlockEnds → ℕ → Queued → Tapped → BlockEnds
ends_after e c q told = refilled e (set e.queues c q) told (min (e.moves + 1) (2 ^ 64 - 1))

rest_moved : (net : Net) (rooms : Rooms) (s : State) (e : BlockEnds) → RestAt net rooms s e
    → (c : ℕ) (q q' : Queued) (told : Tapped)
    → can net rooms s e.block ≡ true
    → slice_get e.queues c ≡ Some q → q'.room ≡ q.room → Waits net (raise e.block s) c q'.tokens
    → ((d : ℕ) (r : List Token) → d < net.channels → (d ≡ c → ⊥) → Waits net s d r → Waits net (raise e.block s) d r)
    → (HasLists (length e.queues) e.told → HasLists (length e.queues) told)
    → RestAt net rooms (raise e.block s) (ends_after e c q' told)
rest_moved net rooms s e h c q q' told possible at room waits others lists =
    let l : e.block < net.blocks = in_net net rooms s e.block h.wired possible in
    let lc : c < length e.queues = slice_get_within e.queues c q at in
    let number : length (set e.queues c q') ≡ length e.queues = length-set e.queues c q' in
    record {
      wired = h.wired;
      kept = event_kept net rooms h.wired s e.block h.kept possible;
      queues_number = number ∙ h.queues_number;
      queues = λ d r z. elim (cases_eq d c) [
        | inl same ↦
            let f : slice_get (set e.queues c q') c ≡ Some r = subst (λ n. slice_get (set e.queues c q') n ≡ Some r) same z in
            let qr : q' ≡ r = same_some q' r (sym (get_set_here e.queues c q' lc) ∙ f) in
            let here : (q'.room ≡ rooms c) × Waits net (raise e.block s) c q'.tokens = (room ∙ (h.queues c q at).0, waits) in
            subst (λ n. (r.room ≡ rooms n) × Waits net (raise e.block s) n r.tokens) (sym same)
            (subst (λ (x : Queued). (x.room ≡ rooms c) × Waits net (raise e.block s) c x.tokens) qr here)
        | inr other ↦
            let f : slice_get e.queues d ≡ Some r = sym (get_set_there e.queues c d q' other) ∙ z in
            let ld : d < length e.queues = slice_get_within e.queues d r f in
            let old = h.queues d r f in
            (old.0, others d r.tokens (omega (arith, ld, h.queues_number)) other old.1)
      ];
      counted = counted_more (sum_below net.blocks s) e.moves h.counted ∙ ap (λ n. min n (2 ^ 64 - 1)) (sym (raise_sum net.blocks e.block s l));
      lists = subst (λ n. HasLists n told) (sym number) (lists h.lists);
      ins = h.ins;
      outs = h.outs;
      apart = h.apart;
    }

once_raised : (net : Net) (rooms : Rooms) (s : State) (b : ℕ) → can net rooms s b ≡ true → AfterMoves net rooms s b 1 (raise b s)
once_raised net rooms s b possible = record {
  leads = (b ∷ [], sym (turn_made net rooms s b possible));
  here = let r = raise_here b s in omega (arith, r);
  there = λ d other. raise_there b s d other;
}

-- what waits at an input is what is taken there next
pub comes : (e : BlockEnds) (p : ℕ) (u : Token) (rest : List Move) → FedAt e (Taking p u ∷ rest) → (more : List Token) × (waits_at e p ++ more ≡ takes p (Taking p u ∷ rest))
comes e p u rest f =
    let net = f.0 in
    let s = f.2 in
    let h = f.3 in
    let at = next_at e net s (Taking p u) rest f.4 in
    let c : ℕ = net.into e.block p in
    let here : get_or e.ins p 0 ≡ c = (h.ins (s e.block) p u at).1 in
    let named : (net.receiver c ≡ e.block) × (net.received_at c ≡ p) × (c < net.channels) = h.wired.taken e.block (s e.block) p u at in
    let lc : get_or e.ins p 0 < length e.queues = let l = named.2 in omega (arith, here, l, h.queues_number) in
    let w : Waits net s c (waits_at e p) =
    subst (λ n. Waits net s n (waits_at e p)) here (h.queues (get_or e.ins p 0) (in_queue e p) (slice_get-get_or e.queues (get_or e.ins p 0) no_queue lc)).1 in
    let later : List Token = puts (net.sent_at c) (drop (s (net.sender c)) (net.moves (net.sender c))) in
    let to_come : takes (net.received_at c) (drop (s (net.receiver c)) (net.moves (net.receiver c))) ≡ takes p (Taking p u ∷ rest) =
    ap (λ q. takes q (drop (s (net.receiver c)) (net.moves (net.receiver c)))) named.1
    ∙ ap (λ b. takes p (drop (s b) (net.moves b))) named.0 ∙ ap (takes p) f.4 in
    let one : got net s c ++ (waits_at e p ++ later) ≡ got net s c ++ takes p (Taking p u ∷ rest) =
    sym (append_assoc (got net s c) (waits_at e p) later) ∙ ap (λ (z : List Token). z ++ later) (sym w) ∙ sent_whole net s c
    ∙ sym (got_whole net s c h.wired named.2) ∙ ap (λ (z : List Token). got net s c ++ z) to_come in
    (later, append_cancel_left (got net s c) _ _ one)

abbrev pub popped : Queued → Queued
popped q = record { tokens = drop 1 q.tokens; room = q.room }

-- a token is taken away
pub made_take : (e : BlockEnds) (p : ℕ) (t : Token) (qs : List Queued) (n : ℕ) → first_at e p ≡ Some t
    → get_or e.ins p 0 < length e.queues → qs ≡ set e.queues (get_or e.ins p 0) (popped (in_queue e p)) → n ≡ min (e.moves + 1) (2 ^ 64 - 1)
    → MadeAt e (Taking p t ∷ []) (refilled e qs e.told n)
made_take e p t qs n first lc eq en =
    let q = in_queue e p in
    let c = get_or e.ins p 0 in
    let at : slice_get e.queues c ≡ Some q = slice_get-get_or e.queues c no_queue lc in
    let number : length qs ≡ length e.queues = ap length eq ∙ length-set e.queues c (popped q) in
    record {
      block = refl;
      ins = refl;
      outs = refl;
      number = number;
      lists = λ h. subst (λ k. HasLists k e.told) (sym number) h;
      advances = λ net rooms s rest h left.
          let move = next_at e net s (Taking p t) rest left in
          let here : c ≡ net.into e.block p = (h.ins (s e.block) p t move).1 in
          let w : Waits net s (net.into e.block p) q.tokens = subst (λ k. Waits net s k q.tokens) here (h.queues c q at).1 in
          let w' : Waits net s (net.into e.block p) (t ∷ drop 1 q.tokens) = subst (Waits net s (net.into e.block p)) (front_first q.tokens t first) w in
          let possible : can net rooms s e.block ≡ true = can_take net rooms s e.block p t q.tokens move w ∙ front_length q.tokens t first in
          let waits : Waits net (raise e.block s) c (drop 1 q.tokens) =
          subst (λ k. Waits net (raise e.block s) k (drop 1 q.tokens)) (sym here) (waits_take net s e.block p t (drop 1 q.tokens) h.wired move w') in
          let r : RestAt net rooms (raise e.block s) (ends_after e c (popped q) e.told) =
          rest_moved net rooms s e h c q (popped q) e.told possible at refl waits
          (λ d r ld other old. waits_take_there net s e.block p t d r h.wired move ld (λ z. other (z ∙ sym here)) old) (λ x. x) in
          let same : ends_after e c (popped q) e.told ≡ refilled e qs e.told n =
          ap (λ z. refilled e z e.told (min (e.moves + 1) (2 ^ 64 - 1))) (sym eq)
          ∙ ap (λ z. refilled e qs e.told z) (sym en) in
          (raise e.block s, once_raised net rooms s e.block possible, subst (RestAt net rooms (raise e.block s)) same r, told_take net s e.block p t e.told move);
    }

abbrev pub pushed : Queued → Token → Queued
pushed q t = record { tokens = q.tokens ++ t ∷ []; room = q.room }

-- a token is put
pub made_put : (e : BlockEnds) (p : ℕ) (t : Token) (qs : List Queued) (told : Tapped) (n : ℕ) (q : Queued)
    → slice_get e.queues (get_or e.outs p 0) ≡ Some q → not (has_room q.room (length q.tokens)) ≡ false
    → qs ≡ set e.queues (get_or e.outs p 0) (pushed q t) → told ≡ one_told (get_or e.outs p 0) t e.told → n ≡ min (e.moves + 1) (2 ^ 64 - 1)
    → MadeAt e (Putting p t ∷ []) (refilled e qs told n)
made_put e p t qs told n q at open_ eq et en =
    let c = get_or e.outs p 0 in
    let number : length qs ≡ length e.queues = ap length eq ∙ length-set e.queues c (pushed q t) in
    record {
      block = refl;
      ins = refl;
      outs = refl;
      number = number;
      lists = λ h. subst (λ k. HasLists k told) (sym number) (lists_put (length e.queues) c t e.told told et h);
      advances = λ net rooms s rest h left.
          let move = next_at e net s (Putting p t) rest left in
          let here : c ≡ net.out_of e.block p = (h.outs (s e.block) p t move).1 in
          let own = h.queues c q at in
          let w : Waits net s (net.out_of e.block p) q.tokens = subst (λ k. Waits net s k q.tokens) here own.1 in
          let room : has_room (rooms (net.out_of e.block p)) (length q.tokens) ≡ true =
          ap (λ k. has_room (rooms k) (length q.tokens)) (sym here) ∙ ap (λ r. has_room r (length q.tokens)) (sym own.0) ∙ not_full _ open_ in
          let possible : can net rooms s e.block ≡ true = can_put net rooms s e.block p t q.tokens move w ∙ room in
          let waits : Waits net (raise e.block s) c (q.tokens ++ t ∷ []) =
          subst (λ k. Waits net (raise e.block s) k (q.tokens ++ t ∷ [])) (sym here) (waits_put net s e.block p t q.tokens h.wired move w) in
          let r : RestAt net rooms (raise e.block s) (ends_after e c (pushed q t) told) =
          rest_moved net rooms s e h c q (pushed q t) told possible at refl waits
          (λ d r ld other old. waits_put_there net s e.block p t d r h.wired move ld (λ z. other (z ∙ sym here)) old)
          (lists_put (length e.queues) c t e.told told et) in
          let same : ends_after e c (pushed q t) told ≡ refilled e qs told n =
          ap (λ z. refilled e z told (min (e.moves + 1) (2 ^ 64 - 1))) (sym eq)
          ∙ ap (λ z. refilled e qs told z) (sym en) in
          let lists : HasLists net.channels e.told = subst (λ k. HasLists k e.told) h.queues_number h.lists in
          let grew : Grew net s (raise e.block s) e.told told =
          subst (Grew net s (raise e.block s) e.told) (ap (λ k. one_told k t e.told) (sym here) ∙ sym et) (told_put net s e.block p t e.told h.wired move lists) in
          (raise e.block s, once_raised net rooms s e.block possible, subst (RestAt net rooms (raise e.block s)) same r, grew);
    }

-- a tap may be told
pub has_lists_prop : (n : ℕ) (told : Tapped) (x y : HasLists n told) → x ≡ y
has_lists_prop n None x y = refl
has_lists_prop n (Some ts) x y = le_prop x y

pub put_lists : (e : BlockEnds) (p : ℕ) (t : Token) → MayPutNext (FedAt e) p t → HasLists (get_or e.outs p 0 + 1) e.told
put_lists e p t may =
    let l = output_queue e p t may in
    ∥∥₁_elim may (has_lists_prop (get_or e.outs p 0 + 1) e.told) (λ r. lists_fewer (length e.queues) (get_or e.outs p 0 + 1) e.told (omega (arith, l)) r.1.3.lists)

-- ---- at the end of a loan

pub ends_same : (e f : BlockEnds) (qs : List Queued) (told : Tapped) → SameEnds e f → qs ≡ f.queues → told ≡ f.told
    → f ≡ refilled e qs told f.moves
ends_same e f qs told h q t =
    ap (λ z. refilled f z f.told f.moves) (sym q)
    ∙ ap (λ z. refilled f qs z f.moves) (sym t)
    ∙ ap (λ z. ends_at qs told f.moves z f.ins f.outs) h.block
    ∙ ap (λ z. ends_at qs told f.moves e.block z f.outs) h.ins
    ∙ ap (λ z. ends_at qs told f.moves e.block e.ins z) h.outs

pub burst_at : {B : Type 0} (step : Ghosts B) (blocks : List B) (e f : BlockEnds) (x y : B) (went : Bool)
    (qs : List Queued) (told : Tapped) → slice_get blocks e.block ≡ Some x → step.kind y ≡ step.kind x
    → SameEnds e f → qs ≡ f.queues → told ≡ f.told → Poured step.kind step.stands FedAt MadeAt x e y f went
    → BurstAt step blocks e (set blocks e.block y) (refilled e qs told f.moves) went
burst_at step blocks e f x y went qs told at same h q t poured z az =
    let xz : x ≡ z = same_some x z (sym at ∙ az) in
    let g : BlockEnds = refilled e qs told f.moves in
    let there : Poured step.kind step.stands FedAt MadeAt x e y g went = subst (λ w. Poured step.kind step.stands FedAt MadeAt x e y w went) (ends_same e f qs told h q t) poured in
    (y, refl, same ∙ ap step.kind xz, subst (λ w. Poured step.kind step.stands FedAt MadeAt w e y g went) xz there)

pub may_burst : {B : Type 0} (step : Ghosts B) (blocks : List B) (e : BlockEnds) (x : B) → slice_get blocks e.block ≡ Some x
    → MayBurst step blocks e → MayPour step.kind step.stands FedAt x e
may_burst step blocks e x at may = ∥∥₁_map may (λ r.
    let same : r.0 ≡ x = same_some r.0 x (sym r.1 ∙ at) in
    subst (λ z. (s : Streams) × (n : ℕ) × step.stands z s n × FedAt e (drop n (moves (step.kind z) s))) same (r.2, r.3, r.4, r.5))

pub same_closed : (e f : BlockEnds) (qs : List Queued) (told : Tapped) → SameEnds e f → qs ≡ f.queues → told ≡ f.told
    → SameEnds e (refilled e qs told f.moves)
same_closed e f qs told h q t = subst (SameEnds e) (ends_same e f qs told h q t) h
