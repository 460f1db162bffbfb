-- Tokens taken from one port, and another put for each.
use Rattle.std.specs.Prelude.{◌≡◌, ◌<◌, ◌≤◌, ℕ, zero, suc, ◌+◌, ◌-◌, ◌^◌, min, false, not, List, [], ◌∷◌, ◌++◌, length}
use Rattle.std.proofs.lemmas.List.{take-take}
use Rattle.std.proofs.lemmas.Option.{slice_get-get_or}
use Rattle.std.proofs.lemmas.Option.{get_or_from_slice_get}
use Rattle.std.specs.Prelude.{take, drop, set, slice_get, get_or, Some, refl}
use Rattle.std.proofs.Common.{arith, sym, ◌∙◌, ap, subst, append-nil, append_assoc}
use Rattle.std.proofs.lemmas.List.{length-set}
use Rattle.std.proofs.lemmas.Option.{slice_get_within}
use Rattle.std.proofs.Math.Logic.{∥∥₁_elim, ∥∥₁_map}
use Rattle.std.specs.Coded.{le_prop}
use Rattle.stream_tokens.specs.declared.Token.{Token}
use Rattle.block_core.specs.Move.{Move, Taking, Putting}
use Rattle.block_core.specs.Bursts.{MayRelay, relayed}
use Rattle.block_core.proofs.Pouring.{at-place, drop-twice}
use Rattle.plays.specs.Net.{Net, State, has_room}
use Rattle.plays.specs.Held.{Queued}
use Rattle.plays.specs.Told.{Tapped, HasLists, one_told}
use Rattle.plays.specs.Rest.{refilled, BlockEnds, no_queue, in_queue, first_at, waits_at, FedAt, MadeAt, SameEnds}
use Rattle.plays.specs.Rest.{MayRelayOne, RelayedTo}
use Rattle.plays.proofs.Lists.{same_some, some_in, get_set_here, get_set_there}
use Rattle.plays.proofs.Tellings.{lists_put, lists_fewer}
use Rattle.plays.proofs.Rests.{made_none, made_then, fed_made, next_at, input_port, input_queue}
use Rattle.plays.proofs.Rests.{popped, pushed, made_take, made_put, has_lists_prop}

-- ---- a token taken and another put for it

second_at : (e : BlockEnds) (net : Net) (s : State) (m m' : Move) (rest : List Move) → drop (s e.block) (net.moves e.block) ≡ m ∷ m' ∷ rest
    → slice_get (net.moves e.block) (s e.block + 1) ≡ Some m'
second_at e net s m m' rest left =
    at-place (net.moves e.block) (s e.block + 1) m' rest (sym (drop-twice (net.moves e.block) (s e.block) 1) ∙ ap (drop 1) left)

pub relay_in_port : (e : BlockEnds) (p q : ℕ) (t : Token) → MayRelayOne e p q t → p < length e.ins
relay_in_port e p q t may = input_port e p (∥∥₁_map may (λ r. (r.0, Putting q t ∷ r.1, r.2)))

pub relay_in_queue : (e : BlockEnds) (p q : ℕ) (t : Token) → MayRelayOne e p q t → get_or e.ins p 0 < length e.queues
relay_in_queue e p q t may = input_queue e p (∥∥₁_map may (λ r. (r.0, Putting q t ∷ r.1, r.2)))

pub relay_out_port : (e : BlockEnds) (p q : ℕ) (t : Token) → MayRelayOne e p q t → q < length e.outs
relay_out_port e p q t may = ∥∥₁_elim may le_prop (λ r.
    let f = r.2 in (f.3.outs (f.2 e.block + 1) q t (second_at e f.0 f.2 _ _ r.1 f.4)).0)

pub relay_out_queue : (e : BlockEnds) (p q : ℕ) (t : Token) → MayRelayOne e p q t → get_or e.outs q 0 < length e.queues
relay_out_queue e p q t may = ∥∥₁_elim may le_prop (λ r.
    let f = r.2 in
    let at = second_at e f.0 f.2 _ _ r.1 f.4 in
    let here = (f.3.outs (f.2 e.block + 1) q t at).1 in
    let l = (f.3.wired.put e.block (f.2 e.block + 1) q t at).2 in
    omega (arith, here, l, f.3.queues_number))

pub relay_lists : (e : BlockEnds) (p q : ℕ) (t : Token) → MayRelayOne e p q t → HasLists (get_or e.outs q 0 + 1) e.told
relay_lists e p q t may =
    let l = relay_out_queue e p q t may in
    ∥∥₁_elim may (has_lists_prop (get_or e.outs q 0 + 1) e.told) (λ r. lists_fewer (length e.queues) (get_or e.outs q 0 + 1) e.told (omega (arith, l)) r.2.3.lists)

no_prop : (x y : ⊥) → x ≡ y
no_prop x y = absurd x

pub relay_apart : (e : BlockEnds) (p q : ℕ) (t : Token) → MayRelayOne e p q t → get_or e.ins p 0 ≡ get_or e.outs q 0 → ⊥
relay_apart e p q t may same = ∥∥₁_elim may no_prop (λ r.
    let f = r.2 in
    let first = next_at e f.0 f.2 _ _ f.4 in
    let second = second_at e f.0 f.2 _ _ r.1 f.4 in
    f.3.apart (f.2 e.block) (f.2 e.block + 1) p q r.0 t first second
    (sym (f.3.ins (f.2 e.block) p r.0 first).1 ∙ same ∙ (f.3.outs (f.2 e.block + 1) q t second).1))

set_apart : {A : Type 0} (xs : List A) (i j : ℕ) (y z : A) → (i ≡ j → ⊥) → set (set xs j y) i z ≡ set (set xs i z) j y
set_apart [] i j y z other = refl
set_apart (x ∷ xs) zero zero y z other = absurd (other refl)
set_apart (x ∷ xs) zero (suc j) y z other = refl
set_apart (x ∷ xs) (suc i) zero y z other = refl
set_apart (x ∷ xs) (suc i) (suc j) y z other = ap (λ (r : List _). x ∷ r) (set_apart xs i j y z (λ e. other (ap suc e)))

-- the queue of the input, once the other was put
pub still_there : (e : BlockEnds) (p q : ℕ) (q2 : Queued) (qs1 : List Queued) → (get_or e.ins p 0 ≡ get_or e.outs q 0 → ⊥) → get_or e.ins p 0 < length e.queues
    → qs1 ≡ set e.queues (get_or e.outs q 0) q2 → slice_get qs1 (get_or e.ins p 0) ≡ Some (in_queue e p)
still_there e p q q2 qs1 other l eq =
    ap (λ z. slice_get z (get_or e.ins p 0)) eq ∙ get_set_there e.queues (get_or e.outs q 0) (get_or e.ins p 0) q2 other ∙ slice_get-get_or e.queues (get_or e.ins p 0) no_queue l

pub made_relay : (e : BlockEnds) (p q : ℕ) (u t : Token) (qs1 qs2 : List Queued) (told : Tapped) (n1 n : ℕ) (q2 : Queued)
    → first_at e p ≡ Some u → (get_or e.ins p 0 ≡ get_or e.outs q 0 → ⊥) → get_or e.ins p 0 < length e.queues
    → slice_get e.queues (get_or e.outs q 0) ≡ Some q2 → not (has_room q2.room (length q2.tokens)) ≡ false
    → qs1 ≡ set e.queues (get_or e.outs q 0) (pushed q2 t) → qs2 ≡ set qs1 (get_or e.ins p 0) (popped (in_queue e p))
    → told ≡ one_told (get_or e.outs q 0) t e.told → n1 ≡ min (e.moves + 1) (2 ^ 64 - 1) → n ≡ min (n1 + 1) (2 ^ 64 - 1)
    → MadeAt e (Taking p u ∷ Putting q t ∷ []) (refilled e qs2 told n)
made_relay e p q u t qs1 qs2 told n1 n q2 first other l at open_ eq1 eq2 et en1 en =
    let c : ℕ = get_or e.ins p 0 in
    let d : ℕ = get_or e.outs q 0 in
    let mid : BlockEnds = refilled e (set e.queues c (popped (in_queue e p))) e.told n1 in
    let taken : MadeAt e (Taking p u ∷ []) mid = made_take e p u (set e.queues c (popped (in_queue e p))) n1 first l refl en1 in
    let still : slice_get mid.queues d ≡ Some q2 = get_set_there e.queues c d (popped (in_queue e p)) (λ z. other (sym z)) ∙ at in
    let swapped : qs2 ≡ set mid.queues d (pushed q2 t) =
    eq2 ∙ ap (λ z. set z c (popped (in_queue e p))) eq1 ∙ set_apart e.queues c d (pushed q2 t) (popped (in_queue e p)) other in
    made_then e mid (refilled e qs2 told n) (Taking p u ∷ []) (Putting q t ∷ []) taken
    (made_put mid q t qs2 told n q2 still open_ swapped et en)

pub relay_waits : (e : BlockEnds) (p : ℕ) (qs1 qs2 : List Queued) → get_or e.ins p 0 < length qs1 → qs2 ≡ set qs1 (get_or e.ins p 0) (popped (in_queue e p))
    → (get_or qs2 (get_or e.ins p 0) no_queue).tokens ≡ drop 1 (waits_at e p)
relay_waits e p qs1 qs2 l eq =
    ap (λ (z : Queued). z.tokens)
    (get_or_from_slice_get qs2 (get_or e.ins p 0) (popped (in_queue e p)) no_queue (ap (λ z. slice_get z (get_or e.ins p 0)) eq ∙ get_set_here qs1 (get_or e.ins p 0) (popped (in_queue e p)) l))

-- ---- one after another

tok_some : (xs : List Token) (i : ℕ) → i < length xs → (t : Token) × (slice_get xs i ≡ Some t)
tok_some xs i l = some_in xs i l

relayed_split : (from to : ℕ) (ts us : List Token) (i : ℕ) (t u : Token) → slice_get ts i ≡ Some t → slice_get us i ≡ Some u
    → relayed from to ts us ≡ relayed from to (take i ts) (take i us) ++ Taking from t ∷ Putting to u ∷ relayed from to (drop (suc i) ts) (drop (suc i) us)
relayed_split from to [] us i t u e f = absurd (cc)
relayed_split from to (x ∷ ts) [] i t u e f = absurd (cc)
relayed_split from to (x ∷ ts) (y ∷ us) zero t u e f =
    let a : x ≡ t = same_some x t e in
    let b : y ≡ u = same_some y u f in
    ap (λ z. Taking from z ∷ Putting to y ∷ relayed from to ts us) a ∙ ap (λ z. Taking from t ∷ Putting to z ∷ relayed from to ts us) b
relayed_split from to (x ∷ ts) (y ∷ us) (suc i) t u e f =
    ap (λ (z : List Move). Taking from x ∷ Putting to y ∷ z) (relayed_split from to ts us i t u e f)

relayed_more : (from to : ℕ) (ts us : List Token) (i : ℕ) (t u : Token) → slice_get ts i ≡ Some t → slice_get us i ≡ Some u
    → relayed from to (take (suc i) ts) (take (suc i) us) ≡ relayed from to (take i ts) (take i us) ++ Taking from t ∷ Putting to u ∷ []
relayed_more from to [] us i t u e f = absurd (cc)
relayed_more from to (x ∷ ts) [] i t u e f = absurd (cc)
relayed_more from to (x ∷ ts) (y ∷ us) zero t u e f =
    let a : x ≡ t = same_some x t e in
    let b : y ≡ u = same_some y u f in
    ap (λ z. Taking from z ∷ Putting to y ∷ []) a ∙ ap (λ z. Taking from t ∷ Putting to z ∷ []) b
relayed_more from to (x ∷ ts) (y ∷ us) (suc i) t u e f =
    ap (λ (z : List Move). Taking from x ∷ Putting to y ∷ z) (relayed_more from to ts us i t u e f)

first_of_drop : (xs : List Token) (i : ℕ) → slice_get (drop i xs) 0 ≡ slice_get xs i
first_of_drop xs zero = refl
first_of_drop [] (suc i) = refl
first_of_drop (x ∷ xs) (suc i) = first_of_drop xs i

drop_one : (xs : List Token) (i : ℕ) → drop 1 (drop i xs) ≡ drop (i + 1) xs
drop_one xs i = let e : i + 1 ≡ suc i = omega arith in there xs i ∙ sym (ap (λ n. drop n xs) e)
  where
    there : (xs : List Token) (i : ℕ) → drop 1 (drop i xs) ≡ drop (suc i) xs
    there xs zero = refl
    there [] (suc i) = refl
    there (x ∷ xs) (suc i) = there xs i

get_take : (xs : List Token) (n i : ℕ) → i < n → slice_get (take n xs) i ≡ slice_get xs i
get_take xs zero i l = absurd (omega (arith, l))
get_take [] (suc n) i l = refl
get_take (x ∷ xs) (suc n) zero l = refl
get_take (x ∷ xs) (suc n) (suc i) l = get_take xs n i (omega (arith, l))

pub relayed_start : (e : BlockEnds) (from to : ℕ) (us : List Token) → RelayedTo e from to us 0 e
relayed_start e from to us = record { made = made_none e; left = refl }

-- the token that is next, at i
pub relay_first : (e : BlockEnds) (from to : ℕ) (us : List Token) (i : ℕ) (f : BlockEnds) → RelayedTo e from to us i f → i < length us → length us ≤ length (waits_at e from)
    → (t : Token) × (first_at f from ≡ Some t) × (slice_get (waits_at e from) i ≡ Some t)
relay_first e from to us i f h l n =
    let t = tok_some (waits_at e from) i (omega (arith, l, n)) in
    (t.0, ap (λ (z : List Token). slice_get z 0) h.left ∙ first_of_drop (waits_at e from) i ∙ t.1, t.1)

pub relay_may : (e : BlockEnds) (from to : ℕ) (us : List Token) (i : ℕ) (f : BlockEnds) (u : Token) → RelayedTo e from to us i f → slice_get us i ≡ Some u → length us ≤ length (waits_at e from)
    → MayRelay (FedAt e) from to (take (length us) (waits_at e from)) us → MayRelayOne f from to u
relay_may e from to us i f u h at n may = ∥∥₁_map may (λ r.
    let l : i < length us = slice_get_within us i u at in
    let ts : List Token = take (length us) (waits_at e from) in
    let t = relay_first e from to us i f h l n in
    let split = relayed_split from to ts us i t.0 u (get_take (waits_at e from) (length us) i l ∙ t.2) at in
    let same : take i ts ≡ take i (waits_at e from) = take-take i (length us) (waits_at e from) (omega (arith, l)) in
    let later : List Move = relayed from to (drop (suc i) ts) (drop (suc i) us) ++ r.0 in
    let all : relayed from to ts us ++ r.0 ≡ relayed from to (take i (waits_at e from)) (take i us) ++ (Taking from t.0 ∷ Putting to u ∷ later) =
    ap (λ (z : List Move). z ++ r.0) split
    ∙ append_assoc (relayed from to (take i ts) (take i us)) (Taking from t.0 ∷ Putting to u ∷ relayed from to (drop (suc i) ts) (drop (suc i) us)) r.0
    ∙ ap (λ (z : List Token). relayed from to z (take i us) ++ (Taking from t.0 ∷ Putting to u ∷ later)) same in
    (t.0, later, fed_made e f (relayed from to (take i (waits_at e from)) (take i us)) (Taking from t.0 ∷ Putting to u ∷ later) h.made (subst (FedAt e) all r.1)))

pub relayed_next : (e : BlockEnds) (from to : ℕ) (us : List Token) (i : ℕ) (f : BlockEnds) (u : Token) (g : BlockEnds) → RelayedTo e from to us i f → slice_get us i ≡ Some u → length us ≤ length (waits_at e from)
    → ((t : Token) → first_at f from ≡ Some t → MadeAt f (Taking from t ∷ Putting to u ∷ []) g) → waits_at g from ≡ drop 1 (waits_at f from) → RelayedTo e from to us (i + 1) g
relayed_next e from to us i f u g h at n made left =
    let l : i < length us = slice_get_within us i u at in
    let t = relay_first e from to us i f h l n in
    let one : i + 1 ≡ suc i = omega arith in
    let more : relayed from to (take (i + 1) (waits_at e from)) (take (i + 1) us) ≡ relayed from to (take i (waits_at e from)) (take i us) ++ Taking from t.0 ∷ Putting to u ∷ [] =
    ap (λ k. relayed from to (take k (waits_at e from)) (take k us)) one ∙ relayed_more from to (waits_at e from) us i t.0 u t.2 at in
    record {
      made = subst (λ (z : List Move). MadeAt e z g) (sym more)
          (made_then e f g (relayed from to (take i (waits_at e from)) (take i us)) (Taking from t.0 ∷ Putting to u ∷ []) h.made (made t.0 t.1));
      left = left ∙ ap (drop 1) h.left ∙ drop_one (waits_at e from) i;
    }

-- nothing more
pub relayed_still : (e : BlockEnds) (from to : ℕ) (us : List Token) (i : ℕ) (f g : BlockEnds) → RelayedTo e from to us i f → MadeAt f [] g
    → MadeAt e (relayed from to (take i (waits_at e from)) (take i us)) g
relayed_still e from to us i f g h made =
    subst (λ (z : List Move). MadeAt e z g) (append-nil (relayed from to (take i (waits_at e from)) (take i us)))
    (made_then e f g (relayed from to (take i (waits_at e from)) (take i us)) [] h.made made)

pub relay_same : (e : BlockEnds) (p q : ℕ) (t : Token) (qs1 qs2 : List Queued) (told : Tapped) (n : ℕ) (q1 q2 : Queued)
    → qs1 ≡ set e.queues (get_or e.outs q 0) q2 → qs2 ≡ set qs1 (get_or e.ins p 0) q1 → told ≡ one_told (get_or e.outs q 0) t e.told
    → SameEnds e (refilled e qs2 told n)
relay_same e p q t qs1 qs2 told n q1 q2 eq1 eq2 et =
    let number : length qs2 ≡ length e.queues =
    ap length eq2 ∙ length-set qs1 (get_or e.ins p 0) q1 ∙ ap length eq1 ∙ length-set e.queues (get_or e.outs q 0) q2 in
    record {
      block = refl;
      ins = refl;
      outs = refl;
      number = number;
      lists = λ h. subst (λ k. HasLists k told) (sym number) (lists_put (length e.queues) (get_or e.outs q 0) t e.told told et h);
    }
