-- The ports of fill, read as chunks, and what each item of the presence is served of them.
use Rattle.std.specs.Prelude.{◌≡◌, ◌<◌, ℕ, zero, suc, List, [], ◌∷◌, get_or, length, refl}
use mathlib.Core.List.{map}
use Rattle.std.proofs.Common.{arith, sym, ◌∙◌, ap, subst}
use Rattle.stream_tokens.specs.declared.Token.{Token}
use Rattle.stream_tokens.specs.declared.Token.TheVariants.{Item, Stop, Done}
use Rattle.stream_tokens.specs.Nest.{Fiber}
use Rattle.stream_tokens.specs.Flat.{fiber_tokens, flat}
use Rattle.stream_tokens.specs.Shapes.{Positive}
use Rattle.block_core.specs.Move.{over}
use Rattle.block_core.specs.Fill.{Chunk, Serving, skip, chunks, tail_before, tail_of, beside_rows, rows, serving_with, serving, stop_tokens, skips_at, stop_at}
use Rattle.block_core.proofs.MergeReadings.{over-at, map-over}

-- ---- columns as rows

-- columns that each have a first element
pub rows-cons : {A : Type 0} (h : ℕ → A) (c t : ℕ → List A) → ((q : ℕ) → c q ≡ h q ∷ t q) → (b w : ℕ)
    → rows (over c b (suc w)) ≡ over h b (suc w) ∷ rows (over t b (suc w))
rows-cons h c t e b zero = ap (map (λ y. y ∷ [])) (e b)
rows-cons h c t e b (suc w) =
    ap (λ y. beside_rows y (rows (over c (suc b) (suc w)))) (e b)
    ∙ ap (beside_rows (h b ∷ t b)) (rows-cons h c t e (suc b) w)

pub rows-none : {A : Type 0} (c : ℕ → List A) → ((q : ℕ) → c q ≡ []) → (b w : ℕ) → rows (over c b (suc w)) ≡ []
rows-none c e b zero = ap (map (λ y. y ∷ [])) (e b)
rows-none c e b (suc w) = ap (λ y. beside_rows y (rows (over c (suc b) (suc w)))) (e b)

abbrev pub first_of : {A : Type 0} → A → List A → A
first_of d [] = d
first_of d (x ∷ xs) = x

abbrev pub after_first : {A : Type 0} → List A → List A
after_first [] = []
after_first (x ∷ xs) = xs

has-first : {A : Type 0} (d : A) (xs : List A) (n : ℕ) → length xs ≡ suc n → xs ≡ first_of d xs ∷ after_first xs
has-first d [] n e = absurd (omega (arith, e))
has-first d (x ∷ xs) n e = refl

pub no-first : {A : Type 0} (xs : List A) → length xs ≡ 0 → xs ≡ []
no-first [] e = refl
no-first (x ∷ xs) e = absurd (omega (arith, e))

one-less : {A : Type 0} (xs : List A) (n : ℕ) → length xs ≡ suc n → length (after_first xs) ≡ n
one-less [] n e = absurd (omega (arith, e))
one-less (x ∷ xs) n e = omega (arith, e)

-- a column of the rows of columns of one length
column-back : (n w p : ℕ) (c : ℕ → List ℕ) → p < suc w → ((q : ℕ) → length (c q) ≡ n)
    → map (λ h. get_or h p 0) (rows (over c 0 (suc w))) ≡ c p
column-back zero w p c b e = ap (map (λ h. get_or h p 0)) (rows-none c (λ q. no-first (c q) (e q)) 0 w) ∙ sym (no-first (c p) (e p))
column-back (suc n) w p c b e =
    let h : ℕ → ℕ = λ q. first_of 0 (c q) in
    let t : ℕ → List ℕ = λ q. after_first (c q) in
    ap (map (λ x. get_or x p 0)) (rows-cons h c t (λ q. has-first 0 (c q) n (e q)) 0 w)
    ∙ ap (λ (x : ℕ). x ∷ map (λ y. get_or y p 0) (rows (over t 0 (suc w)))) (over-at h 0 (suc w) p 0 b ∙ ap h (omega arith))
    ∙ ap (λ (xs : List ℕ). first_of 0 (c p) ∷ xs) (column-back n w p t b (λ q. one-less (c q) n (e q)))
    ∙ sym (has-first 0 (c p) n (e p))

-- ---- a port's tokens by its chunks

abbrev pub chunk_tokens : List Chunk → List Token → List Token
chunk_tokens [] rest = rest
chunk_tokens (c ∷ cs) rest = stop_tokens c.skipped (fiber_tokens Item c.items (Stop c.stop ∷ chunk_tokens cs rest))

one-skipped : (k : ℕ) (cs : List Chunk) (tail : List ℕ)
    → chunk_tokens (skip k cs) (stop_tokens (tail_before k cs tail) (Done ∷ [])) ≡ Stop k ∷ chunk_tokens cs (stop_tokens tail (Done ∷ []))
one-skipped k [] tail = refl
one-skipped k (c ∷ cs) tail = refl

pub tokens-chunked : (fs : List (Fiber ℕ)) → Positive fs → flat Item fs ≡ chunk_tokens (chunks fs) (stop_tokens (tail_of fs) (Done ∷ []))
tokens-chunked [] w = refl
tokens-chunked (([], n) ∷ fs) w =
    subst (λ (x : ℕ). flat Item (([], x) ∷ fs) ≡ chunk_tokens (chunks (([], x) ∷ fs)) (stop_tokens (tail_of (([], x) ∷ fs)) (Done ∷ []))) (sym w.0.1)
    (ap (λ (s : List Token). Stop w.0.0 ∷ s) (tokens-chunked fs w.1) ∙ sym (one-skipped w.0.0 (chunks fs) (tail_of fs)))
tokens-chunked (((x ∷ xs), n) ∷ fs) w =
    subst (λ (y : ℕ). flat Item (((x ∷ xs), y) ∷ fs) ≡ chunk_tokens (chunks (((x ∷ xs), y) ∷ fs)) (stop_tokens (tail_of (((x ∷ xs), y) ∷ fs)) (Done ∷ []))) (sym w.0.1)
    (ap (λ (s : List Token). Item x ∷ fiber_tokens Item xs (Stop w.0.0 ∷ s)) (tokens-chunked fs w.1))

-- the fibers that aren't empty
abbrev pub contents : List (Fiber ℕ) → List (List ℕ)
contents [] = []
contents (([], n) ∷ fs) = contents fs
contents (((x ∷ xs), n) ∷ fs) = (x ∷ xs) ∷ contents fs

abbrev pub content : Chunk → List ℕ
content c = c.items

skip-content : (k : ℕ) (cs : List Chunk) → map content (skip k cs) ≡ map content cs
skip-content k [] = refl
skip-content k (c ∷ cs) = refl

pub chunk-contents : (fs : List (Fiber ℕ)) → map content (chunks fs) ≡ contents fs
chunk-contents [] = refl
chunk-contents (([], zero) ∷ fs) = skip-content 0 (chunks fs) ∙ chunk-contents fs
chunk-contents (([], suc n) ∷ fs) = skip-content n (chunks fs) ∙ chunk-contents fs
chunk-contents (((x ∷ xs), n) ∷ fs) = ap (λ (ys : List (List ℕ)). (x ∷ xs) ∷ ys) (chunk-contents fs)

-- each chunk has a number
abbrev pub Full : List Chunk → Type 0
Full [] = Unit {0}
Full (c ∷ cs) = ((n : ℕ) × (length c.items ≡ suc n)) × Full cs

skip-full : (k : ℕ) (cs : List Chunk) → Full cs → Full (skip k cs)
skip-full k [] h = tt
skip-full k (c ∷ cs) h = h

pub chunks-full : (fs : List (Fiber ℕ)) → Full (chunks fs)
chunks-full [] = tt
chunks-full (([], zero) ∷ fs) = skip-full 0 (chunks fs) (chunks-full fs)
chunks-full (([], suc n) ∷ fs) = skip-full n (chunks fs) (chunks-full fs)
chunks-full (((x ∷ xs), n) ∷ fs) = ((length xs, refl), chunks-full fs)

-- ---- what is served, port by port

-- at port p this is served as that chunk says
pub record Serves (p : ℕ) (s : Serving) (c : Chunk) : Type 0 where
  pub skips : skips_at s p ≡ c.skipped
  pub numbers : map (λ h. get_or h p 0) (s.first ∷ s.more) ≡ c.items
  pub stops : stop_at s p ≡ Stop c.stop

abbrev pub AllServe : ℕ → List Serving → List Chunk → Type 0
AllServe p [] [] = Unit {0}
AllServe p [] (c ∷ cs) = ⊥
AllServe p (s ∷ ss) [] = ⊥
AllServe p (s ∷ ss) (c ∷ cs) = Serves p s c × AllServe p ss cs

pub row-serves : (w p : ℕ) (c : ℕ → Chunk) (n : ℕ) → p < suc w → ((q : ℕ) → length (c q).items ≡ suc n) → Serves p (serving (over c 0 (suc w))) (c p)
row-serves w p c n b e =
    let items : ℕ → List ℕ = λ q. (c q).items in
    let h : ℕ → ℕ = λ q. first_of 0 (items q) in
    let t : ℕ → List ℕ = λ q. after_first (items q) in
    let rs : rows (map content (over c 0 (suc w))) ≡ over h 0 (suc w) ∷ rows (over t 0 (suc w)) =
    ap rows (map-over content c 0 (suc w)) ∙ rows-cons h items t (λ q. has-first 0 (items q) n (e q)) 0 w in
    let s : serving (over c 0 (suc w))
    ≡ record { skips = over (λ q. (c q).skipped) 0 (suc w); first = over h 0 (suc w); more = rows (over t 0 (suc w)); stops = over (λ q. (c q).stop) 0 (suc w) } =
    ap (serving_with (map (λ y. y.skipped) (over c 0 (suc w))) (map (λ y. y.stop) (over c 0 (suc w)))) rs
    ∙ ap (λ (y : List (List ℕ)). record { skips = y; first = over h 0 (suc w); more = rows (over t 0 (suc w)); stops = map (λ z. z.stop) (over c 0 (suc w)) }) (map-over (λ y. y.skipped) c 0 (suc w))
    ∙ ap (λ (y : List ℕ). record { skips = over (λ q. (c q).skipped) 0 (suc w); first = over h 0 (suc w); more = rows (over t 0 (suc w)); stops = y }) (map-over (λ y. y.stop) c 0 (suc w)) in
    subst (λ (y : Serving). Serves p y (c p)) (sym s) (record {
      skips = over-at (λ q. (c q).skipped) 0 (suc w) p [] b ∙ ap (λ (q : ℕ). (c q).skipped) (omega arith);
      numbers = ap (map (λ y. get_or y p 0)) (sym (rows-cons h items t (λ q. has-first 0 (items q) n (e q)) 0 w)) ∙ column-back (suc n) w p items b e;
      stops = ap Stop (over-at (λ q. (c q).stop) 0 (suc w) p 0 b ∙ ap (λ (q : ℕ). (c q).stop) (omega arith));
    })

abbrev pub no_chunk : Chunk
no_chunk = record { skipped = []; items = []; stop = 0 }
