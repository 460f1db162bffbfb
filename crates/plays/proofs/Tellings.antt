-- What a tap is told.
use Rattle.std.specs.Prelude.{◌≡◌, ◌<◌, ◌≤◌, ℕ, ◌-◌, ◌||◌, Bool, true, false, not, nat_lt, List, [], ◌∷◌, ◌++◌, length}
use Rattle.std.specs.Prelude.{take, drop, set, slice_get, get_or, Some, None, refl}
use Rattle.std.proofs.Common.{arith, sym, ◌∙◌, ap, subst, append-nil, append_assoc, length-append, get_or-set_same}
use Rattle.std.proofs.Common.{get_or-set_other, inl, inr}
use Rattle.std.proofs.lemmas.Bool.{cases_eq}
use Rattle.std.proofs.lemmas.Bool.Decides.{nat_tests}
use Rattle.std.proofs.lemmas.List.{length-set}
use Rattle.stream_tokens.specs.declared.Token.{Token}
use Rattle.block_core.specs.Move.{Taking, Putting}
use Rattle.std.proofs.Math.Seq.{take-append_seam}
use Rattle.plays.specs.Held.{Queued}
use Rattle.plays.proofs.Lists.{set_twice, set_same}
use Rattle.plays.specs.Net.{Net, State, Wired, raise}
use Rattle.plays.specs.Told.{Tapped, Grew, GrewAt, one_told, HasLists}
use Rattle.plays.proofs.Event.{sent_put, sent_put_there, sent_take}

pub grew_same : (net : Net) (s : State) (told : Tapped) → Grew net s s told told
grew_same net s None = tt
grew_same net s (Some ts) = (refl, λ c l. ([], sym (append-nil _), sym (append-nil (get_or ts c []))), λ c l. refl)

pub grew_then : (net : Net) (s t u : State) (x y z : Tapped) → Grew net s t x y → Grew net t u y z → Grew net s u x z
grew_then net s t u None None None a b = tt
grew_then net s t u None None (Some z) a b = absurd b
grew_then net s t u None (Some y) z a b = absurd a
grew_then net s t u (Some x) None z a b = absurd a
grew_then net s t u (Some x) (Some y) None a b = absurd b
grew_then net s t u (Some x) (Some y) (Some z) a b = (
  b.0 ∙ a.0,
  λ c l.
      let p = a.1 c l in
      let q = b.1 c l in (
        p.0 ++ q.0,
        q.1 ∙ ap (λ (w : List Token). w ++ q.0) p.1 ∙ append_assoc _ p.0 q.0,
        q.2 ∙ ap (λ (w : List Token). w ++ q.0) p.2 ∙ append_assoc (get_or x c []) p.0 q.0,
      ),
  λ c l. b.2 c l ∙ a.2 c l,
)

-- a put is told of its own channel alone
pub told_put : (net : Net) (s : State) (b p : ℕ) (t : Token) (told : Tapped) → Wired net → slice_get (net.moves b) (s b) ≡ Some (Putting p t)
    → HasLists net.channels told → Grew net s (raise b s) told (one_told (net.out_of b p) t told)
told_put net s b p t None w e lists = tt
told_put net s b p t (Some ts) w e lists =
    let c : ℕ = net.out_of b p in
    let l : c < net.channels = (w.put b (s b) p t e).2 in
    let lc : c < length ts = omega (arith, l, lists) in
    let new : List (List Token) = set ts c (get_or ts c [] ++ t ∷ []) in (
      length-set ts c (get_or ts c [] ++ t ∷ []),
      λ d ld. elim (cases_eq d c) [
        | inl same ↦
            let here : GrewAt net s (raise b s) c (get_or ts c []) (get_or new c []) =
            (t ∷ [], sent_put net s b p t w e, get_or-set_same ts c (get_or ts c [] ++ t ∷ []) [] lc) in
            subst (λ n. GrewAt net s (raise b s) n (get_or ts n []) (get_or new n [])) (sym same) here
        | inr other ↦ (
          [],
          sent_put_there net s b p t d w e ld other ∙ sym (append-nil _),
          get_or-set_other ts c d (get_or ts c [] ++ t ∷ []) [] other ∙ sym (append-nil (get_or ts d [])),
        )
      ],
      λ d ld. get_or-set_other ts c d (get_or ts c [] ++ t ∷ []) [] (λ z. omega (arith, z, l, ld)),
    )

-- nothing is told of a take
pub told_take : (net : Net) (s : State) (b p : ℕ) (t : Token) (told : Tapped) → slice_get (net.moves b) (s b) ≡ Some (Taking p t)
    → Grew net s (raise b s) told told
told_take net s b p t None e = tt
told_take net s b p t (Some ts) e = (
  refl,
  λ c l. ([], sent_take net s b p t c e ∙ sym (append-nil _), sym (append-nil (get_or ts c []))),
  λ c l. refl,
)

pub front_first : (q : List Token) (t : Token) → slice_get q 0 ≡ Some t → q ≡ t ∷ drop 1 q
front_first [] t e = absurd (cc)
front_first (u ∷ q) t e = cc

pub front_length : (q : List Token) (t : Token) → slice_get q 0 ≡ Some t → nat_lt 0 (length q) ≡ true
front_length [] t e = absurd (cc)
front_length (u ∷ q) t e = grind (arith, nat_tests)

-- a tap has as many lists as before
pub lists_put : (n c : ℕ) (t : Token) (told told' : Tapped) → told' ≡ one_told c t told → HasLists n told → HasLists n told'
lists_put n c t told told' e lists = subst (HasLists n) (sym e) (there told lists)
  where
    there : (told : Tapped) → HasLists n told → HasLists n (one_told c t told)
    there None lists = tt
    there (Some ts) lists = let l = length-set ts c (get_or ts c [] ++ t ∷ []) in omega (arith, l, lists)

pub lists_fewer : (n m : ℕ) (told : Tapped) → m ≤ n → HasLists n told → HasLists m told
lists_fewer n m None l h = tt
lists_fewer n m (Some ts) l h = omega (arith, l, h)

pub neither : (a b : Bool) → a || b ≡ false → a ≡ false
neither true b e = absurd (cc)
neither false b e = refl

pub not_full : (b : Bool) → not b ≡ false → b ≡ true
not_full true e = refl
not_full false e = absurd (cc)

-- a token that was put and taken away again
pub put_back : (qs qs' qs'' : List Queued) (c : ℕ) (q : Queued) (t : Token) → slice_get qs c ≡ Some q
    → qs' ≡ set qs c (record { tokens = q.tokens ++ t ∷ []; room = q.room })
    → qs'' ≡ set qs' c (record { tokens = take (length (q.tokens ++ t ∷ []) - 1) (q.tokens ++ t ∷ []); room = q.room }) → qs'' ≡ qs
put_back qs qs' qs'' c q t at e f =
    let n : length (q.tokens ++ t ∷ []) - 1 ≡ length q.tokens = let l = length-append q.tokens (t ∷ []) in omega (arith, l) in
    let back : take (length (q.tokens ++ t ∷ []) - 1) (q.tokens ++ t ∷ []) ≡ q.tokens =
    ap (λ k. take k (q.tokens ++ t ∷ [])) n ∙ take-append_seam q.tokens (t ∷ []) in
    f ∙ ap (λ z. set z c (record { tokens = take (length (q.tokens ++ t ∷ []) - 1) (q.tokens ++ t ∷ []); room = q.room })) e
    ∙ set_twice qs c _ _ ∙ ap (λ (z : List Token). set qs c (record { tokens = z; room = q.room })) back ∙ set_same qs c q at
