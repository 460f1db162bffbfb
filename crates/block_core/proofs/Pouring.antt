-- One move more of a burst.
use Rattle.std.specs.Prelude.{◌≡◌, ℕ, zero, suc, ◌+◌, Bool, true, false, cond, Option, Some, List, [], ◌∷◌, ◌++◌, take, drop, slice_get, refl, Result, Ok, Err, IfErr}
use Rattle.std.proofs.Common.{arith, sym, ◌∙◌, ap, subst, append-nil}
use Rattle.std.proofs.lemmas.List.{take-append-drop}
use Rattle.std.proofs.lemmas.Bool.{eq-eqb}
use Rattle.std.proofs.Math.Logic.{∥∥₁_map}
use Rattle.stream_tokens.specs.declared.Token.{Token}
use Rattle.block_core.specs.declared.Wish.TheVariants.{Take, Put}
use Rattle.block_core.specs.Move.{Move, Taking, Putting, wish_of, takes}
use Rattle.block_core.specs.Ports.{Streams}
use Rattle.block_core.specs.Kind.{Kind, moves}
use Rattle.block_core.specs.Steps.{MayTake, MayPut}
use Rattle.block_core.specs.Bursts.{MayTakeNext, MayPutNext, MayPour, Poured}

-- the move that a wish tells of
pub next-take : (ms : List Move) (p : ℕ) → Take p ≡ wish_of ms → (t : Token) × (rest : List Move) × (ms ≡ Taking p t ∷ rest)
next-take [] p e = absurd (cc)
next-take (Taking q t ∷ rest) p e = let same : p ≡ q = cc in (t, rest, ap (λ x. Taking x t ∷ rest) (sym same))
next-take (Putting q t ∷ rest) p e = absurd (cc)

pub next-put : (ms : List Move) (p : ℕ) (t : Token) → Put p t ≡ wish_of ms → (rest : List Move) × (ms ≡ Putting p t ∷ rest)
next-put [] p t e = absurd (cc)
next-put (Taking q u ∷ rest) p t e = absurd (cc)
next-put (Putting q u ∷ rest) p t e =
    let same : q ≡ p = cc in
    let equal : u ≡ t = cc in
    (rest, ap (λ x. Putting x u ∷ rest) same ∙ ap (λ x. Putting p x ∷ rest) equal)

-- the first of those that are left is the move at the place, and the rest is what is left after it
pub at-place : (ms : List Move) (n : ℕ) (m : Move) (rest : List Move) → drop n ms ≡ m ∷ rest → slice_get ms n ≡ Some m
at-place [] zero m rest e = absurd (cc)
at-place [] (suc n) m rest e = absurd (cc)
at-place (x ∷ xs) zero m rest e = cc
at-place (x ∷ xs) (suc n) m rest e = at-place xs n m rest e

pub drop-twice : (ms : List Move) (n k : ℕ) → drop k (drop n ms) ≡ drop (n + k) ms
drop-twice ms zero k = let e : k ≡ 0 + k = omega arith in ap (λ i. drop i ms) e
drop-twice [] (suc n) k = nothing k ∙ sym (nothing (suc n + k))
  where
    nothing : (i : ℕ) → ◌≡◌ {A = List Move} (drop i []) []
    nothing zero = refl
    nothing (suc i) = refl
drop-twice (x ∷ xs) (suc n) k = let e : suc n + k ≡ suc (n + k) = omega arith in drop-twice xs n k ∙ sym (ap (λ i. drop i (x ∷ xs)) e)

pub take-next : (ms : List Move) (k : ℕ) (m : Move) (rest : List Move) → drop k ms ≡ m ∷ rest → take (k + 1) ms ≡ take k ms ++ m ∷ []
take-next ms k m rest e = let one : k + 1 ≡ suc k = omega arith in ap (λ i. take i ms) one ∙ there ms k e
  where
    there : (ms : List Move) (k : ℕ) → drop k ms ≡ m ∷ rest → take (suc k) ms ≡ take k ms ++ m ∷ []
    there [] zero e = absurd (cc)
    there [] (suc k) e = absurd (cc)
    there (x ∷ xs) zero e = let h : x ≡ m = cc in ap (λ z. z ∷ []) h
    there (x ∷ xs) (suc k) e = ap (λ (z : List Move). x ∷ z) (there xs k e)

module _ {B P : Type 0} (kind : B → Kind) (stands : B → Streams → ℕ → Type 0) (fed : P → List Move → Type 0) (did : P → List Move → P → Type 0) where
  pub poured_none : ((p : P) → did p [] p) → (b : B) (p : P) → Poured kind stands fed did b p b p false
  poured_none none b p s n st fd = (0, λ z. absurd (cc), subst (stands b s) (omega arith) st, none p)

  -- where a burst led, the ports are those of one that has the rest before it
  pub fed_then : ((p q : P) (xs rest : List Move) → did p xs q → fed p (xs ++ rest) → fed q rest)
      → (p q : P) (ms : List Move) (n k : ℕ) → fed p (drop n ms) → did p (take k (drop n ms)) q → fed q (drop (n + k) ms)
  fed_then after p q ms n k fd d =
      subst (fed q) (drop-twice ms n k)
      (after p q (take k (drop n ms)) (drop k (drop n ms)) d (subst (fed p) (sym (take-append-drop k (drop n ms))) fd))

  pub may_then : ((p q : P) (xs rest : List Move) → did p xs q → fed p (xs ++ rest) → fed q rest)
      → (b : B) (p : P) (b' : B) (p' : P) (went : Bool) → kind b' ≡ kind b → Poured kind stands fed did b p b' p' went → MayPour kind stands fed b p → MayPour kind stands fed b' p'
  may_then after b p b' p' went same h may = ∥∥₁_map may (λ r.
      let z = h r.0 r.1 r.2 r.3 in
      (r.0, r.1 + z.0, z.2, subst (λ k. fed p' (drop (r.1 + z.0) (moves k r.0))) (sym same) (fed_then after p p' (moves (kind b) r.0) r.1 z.0 r.3 z.3)))

  -- one move more
  pub poured_move : ((p q : P) (xs rest : List Move) → did p xs q → fed p (xs ++ rest) → fed q rest)
      → ((p q r : P) (xs ys : List Move) → did p xs q → did q ys r → did p (xs ++ ys) r)
      → (b : B) (p : P) (b' : B) (p' : P) (went : Bool) (b'' : B) (p'' : P) (m : Move)
      → kind b' ≡ kind b → Poured kind stands fed did b p b' p' went
      → ((s : Streams) (n : ℕ) → stands b' s n → fed p' (drop n (moves (kind b') s))
      → ((rest : List Move) × (drop n (moves (kind b') s) ≡ m ∷ rest)) × stands b'' s (n + 1))
      → did p' (m ∷ []) p'' → Poured kind stands fed did b p b'' p'' true
  poured_move after joined b p b' p' went b'' p'' m same h step d s n st fd =
      let z = h s n st fd in
      let ms = moves (kind b) s in
      let fd' : fed p' (drop (n + z.0) ms) = fed_then after p p' ms n z.0 fd z.3 in
      let next = step s (n + z.0) z.2 (subst (λ k. fed p' (drop (n + z.0) (moves k s))) (sym same) fd') in
      let at : drop z.0 (drop n ms) ≡ m ∷ next.0.0 = drop-twice ms n z.0 ∙ ap (λ k. drop (n + z.0) (moves k s)) (sym same) ∙ next.0.1 in (
        z.0 + 1,
        λ _. omega arith,
        subst (stands b'' s) (omega arith) next.1,
        subst (λ (xs : List Move). did p xs p'') (sym (take-next (drop n ms) z.0 m next.0.0 at)) (joined p p' p'' (take z.0 (drop n ms)) (m ∷ []) z.3 d),
      )

  -- where the wish tells of a take, what is needed to make it
  module _ (b : B) (p : P) (may : MayPour kind stands fed b p) where
    pub may_take_next : (port : ℕ) → ((s : Streams) (n : ℕ) → stands b s n → Take port ≡ wish_of (drop n (moves (kind b) s))) → MayTakeNext (fed p) port
    may_take_next port wish = ∥∥₁_map may (λ r.
        let e = next-take (drop r.1 (moves (kind b) r.0)) port (wish r.0 r.1 r.2) in
        (e.0, e.1, subst (fed p) e.2 r.3))

    pub may_take : (first : P → ℕ → Option Token)
        → ((p : P) (port : ℕ) (t u : Token) (rest : List Move) → first p port ≡ Some t → fed p (Taking port u ∷ rest) → t ≡ u)
        → (port : ℕ) (t : Token) → ((s : Streams) (n : ℕ) → stands b s n → Take port ≡ wish_of (drop n (moves (kind b) s))) → first p port ≡ Some t
        → MayTake (stands b) (kind b) port t
    may_take first next port t wish e = ∥∥₁_map may (λ r.
        let f = next-take (drop r.1 (moves (kind b) r.0)) port (wish r.0 r.1 r.2) in
        let same : t ≡ f.0 = next p port t f.0 f.1 e (subst (fed p) f.2 r.3) in
        (r.0, r.1, r.2, at-place (moves (kind b) r.0) r.1 (Taking port t) f.1 (f.2 ∙ ap (λ x. Taking port x ∷ f.1) (sym same))))

    pub may_put_next : (port : ℕ) (t : Token) → ((s : Streams) (n : ℕ) → stands b s n → Put port t ≡ wish_of (drop n (moves (kind b) s))) → MayPutNext (fed p) port t
    may_put_next port t wish = ∥∥₁_map may (λ r.
        let e = next-put (drop r.1 (moves (kind b) r.0)) port t (wish r.0 r.1 r.2) in
        (e.0, subst (fed p) e.1 r.3))

    pub may_put : (port : ℕ) (t : Token) → ((s : Streams) (n : ℕ) → stands b s n → Put port t ≡ wish_of (drop n (moves (kind b) s))) → MayPut (stands b) (kind b)
    may_put port t wish = ∥∥₁_map may (λ r.
        let e = next-put (drop r.1 (moves (kind b) r.0)) port t (wish r.0 r.1 r.2) in
        (r.0, r.1, port, t, r.2, at-place (moves (kind b) r.0) r.1 (Putting port t) e.0 e.1))

  -- a take more and a put more
  pub poured_take : (first : P → ℕ → Option Token)
      → ((p : P) (port : ℕ) (t u : Token) (rest : List Move) → first p port ≡ Some t → fed p (Taking port u ∷ rest) → t ≡ u)
      → ((p q : P) (xs rest : List Move) → did p xs q → fed p (xs ++ rest) → fed q rest)
      → ((p q r : P) (xs ys : List Move) → did p xs q → did q ys r → did p (xs ++ ys) r)
      → (b : B) (p : P) (b' : B) (p' : P) (went : Bool) (b'' : B) (p'' : P) (port : ℕ) (t : Token)
      → kind b' ≡ kind b → Poured kind stands fed did b p b' p' went
      → ((s : Streams) (n : ℕ) → stands b' s n → Take port ≡ wish_of (drop n (moves (kind b') s))) → first p' port ≡ Some t
      → ((s : Streams) (n : ℕ) → stands b' s n → slice_get (moves (kind b') s) n ≡ Some (Taking port t) → stands b'' s (n + 1))
      → did p' (Taking port t ∷ []) p'' → Poured kind stands fed did b p b'' p'' true
  poured_take first next after joined b p b' p' went b'' p'' port t same h wish e moved d =
      poured_move after joined b p b' p' went b'' p'' (Taking port t) same h (λ s n st fd.
      let f = next-take (drop n (moves (kind b') s)) port (wish s n st) in
      let is : t ≡ f.0 = next p' port t f.0 f.1 e (subst (fed p') f.2 fd) in
      let at : drop n (moves (kind b') s) ≡ Taking port t ∷ f.1 = f.2 ∙ ap (λ x. Taking port x ∷ f.1) (sym is) in
      ((f.1, at), moved s n st (at-place (moves (kind b') s) n (Taking port t) f.1 at))) d

  pub poured_put : ((p q : P) (xs rest : List Move) → did p xs q → fed p (xs ++ rest) → fed q rest)
      → ((p q r : P) (xs ys : List Move) → did p xs q → did q ys r → did p (xs ++ ys) r)
      → (b : B) (p : P) (b' : B) (p' : P) (went : Bool) (b'' : B) (p'' : P) (port : ℕ) (t : Token)
      → kind b' ≡ kind b → Poured kind stands fed did b p b' p' went
      → ((s : Streams) (n : ℕ) → stands b' s n → Put port t ≡ wish_of (drop n (moves (kind b') s)))
      → ((s : Streams) (n : ℕ) (q : ℕ) (u : Token) → stands b' s n → slice_get (moves (kind b') s) n ≡ Some (Putting q u) → stands b'' s (n + 1))
      → did p' (Putting port t ∷ []) p'' → Poured kind stands fed did b p b'' p'' true
  poured_put after joined b p b' p' went b'' p'' port t same h wish moved d =
      poured_move after joined b p b' p' went b'' p'' (Putting port t) same h (λ s n st fd.
      let f = next-put (drop n (moves (kind b') s)) port t (wish s n st) in
      (f, moved s n port t st (at-place (moves (kind b') s) n (Putting port t) f.0 f.1))) d

  -- nothing more
  pub poured_still : ((p q r : P) (xs ys : List Move) → did p xs q → did q ys r → did p (xs ++ ys) r)
      → (b : B) (p : P) (b' : B) (p' : P) (went : Bool) (p'' : P)
      → Poured kind stands fed did b p b' p' went → did p' [] p'' → Poured kind stands fed did b p b' p'' went
  poured_still joined b p b' p' went p'' h d s n st fd =
      let z = h s n st fd in
      (z.0, z.1, z.2, subst (λ (xs : List Move). did p xs p'') (append-nil (take z.0 (drop n (moves (kind b) s)))) (joined p p' p'' _ [] z.3 d))

  pub poured_some : (b : B) (p : P) (b' : B) (p' : P) (went : Bool) → Poured kind stands fed did b p b' p' went → Poured kind stands fed did b p b' p' false
  poured_some b p b' p' went h s n st fd = let z = h s n st fd in (z.0, λ e. absurd (cc), z.2, z.3)

pub always-err : {T E : Type 0} (r : Result T E) {P : Type 0} → P → IfErr r (λ _. P)
always-err (Ok x) p = tt
always-err (Err e) p = p

-- the token that waits first is the one that is taken next
pub first-is : {P : Type 0} (fed : P → List Move → Type 0) (waits : P → ℕ → List Token)
    → ((p : P) (port : ℕ) (t : Token) (rest : List Move) → fed p (Taking port t ∷ rest) → (more : List Token) × (waits p port ++ more ≡ takes port (Taking port t ∷ rest)))
    → (p : P) (port : ℕ) (t u : Token) (rest : List Move) → slice_get (waits p port) 0 ≡ Some t → fed p (Taking port u ∷ rest) → t ≡ u
first-is fed waits comes p port t u rest e f =
    let h = comes p port u rest f in
    let here : takes port (Taking port u ∷ rest) ≡ u ∷ takes port rest = ap (λ (b : Bool). cond b (u ∷ takes port rest) (takes port rest)) (eq-eqb port port refl) in
    front h.0 (waits p port) e (h.1 ∙ here)
  where
    front : (more : List Token) (ws : List Token) → slice_get ws 0 ≡ Some t → ws ++ more ≡ u ∷ takes port rest → t ≡ u
    front more [] e h = absurd (cc)
    front more (w ∷ ws) e h = cc
