-- The reading of two sides of streams gives the sides back.
use Rattle.std.specs.Prelude.{◌≡◌, ◌<◌, ℕ, zero, suc, ◌+◌, List, [], ◌∷◌, ◌++◌, None, get_or, length, refl}
use mathlib.Core.List.{map}
use Rattle.std.proofs.Common.{arith, inl, sym, ◌∙◌, ap}
use Rattle.stream_tokens.specs.declared.Token.{Token}
use Rattle.stream_tokens.specs.Nest.{Leaf, Fiber}
use Rattle.stream_tokens.specs.Flat.{flat, fibers_of}
use Rattle.stream_tokens.specs.Shapes.{on_tokens, both, Positive, EachToken}
use Rattle.stream_tokens.proofs.Algebra.{on_tokens-on_tokens, on_tokens-same, on_tokens-ext, both-tokens}
use Rattle.block_core.specs.Move.{over, columns}
use Rattle.block_core.specs.Ports.{Streams, port, ports, numbers_of}
use Rattle.block_core.specs.Merge.{Head, Sides, left_of, right_of, head_token, side_streams, bare, with_payload, bundle, sides_of, merge_reading, merge_inputs, AllClose}
use Rattle.block_core.proofs.Readings.{leaves-read, numbers-read}

-- ---- the streams of a side, by ports

pub over-at : {A : Type 0} (x : ℕ → A) (p n q : ℕ) (d : A) → q < n → get_or (over x p n) q d ≡ x (p + q)
over-at x p zero q d b = absurd (omega (arith, b))
over-at x p (suc n) zero d b = ap x (omega arith)
over-at x p (suc n) (suc q) d b = over-at x (suc p) n q d (omega (arith, b)) ∙ ap x (omega arith)

before-others : (f : ℕ → List Token) (p n q : ℕ) (ss : Streams) → q < n → port q (columns f p n ++ ss) ≡ f (p + q)
before-others f p zero q ss b = absurd (omega (arith, b))
before-others f p (suc n) zero ss b = ap f (omega arith)
before-others f p (suc n) (suc q) ss b = before-others f (suc p) n q ss (omega (arith, b)) ∙ ap f (omega arith)

after-others : (f : ℕ → List Token) (p n q : ℕ) (ss : Streams) → port (n + q) (columns f p n ++ ss) ≡ port q ss
after-others f p zero q ss = ap (λ (x : ℕ). port x ss) (omega arith)
after-others f p (suc n) q ss = let e : suc n + q ≡ suc (n + q) = omega arith in rw e (after-others f (suc p) n q ss)

pub over-ext : {A : Type 0} (x y : ℕ → A) (p q n : ℕ) → ((i : ℕ) → i < n → x (p + i) ≡ y (q + i)) → over x p n ≡ over y q n
over-ext x y p q zero e = refl
over-ext x y p q (suc n) e =
    let first : x p ≡ y q = ap x (omega arith) ∙ e 0 (omega arith) ∙ ap y (omega arith) in
    let more : over x (suc p) n ≡ over y (suc q) n =
    over-ext x y (suc p) (suc q) n (λ i b. ap x (omega arith) ∙ e (suc i) (omega (arith, b)) ∙ ap y (omega arith)) in
    rw (first, more) refl

pub map-over : {A B : Type 0} (f : A → B) (x : ℕ → A) (p n : ℕ) → map f (over x p n) ≡ over (λ i. f (x i)) p n
map-over f x p zero = refl
map-over f x p (suc n) = ap (λ (ys : List _). f (x p) ∷ ys) (map-over f x (suc p) n)

-- ---- a side read back

-- the payload at port p + 1
abbrev payload : ℕ → Head → Leaf
payload p h = get_or h.1 p None

with_payload-map : {A : Type 0} (f : A → Leaf) (g : A → Head) (xs : List A) → with_payload (map f xs) (map g xs) ≡ map (λ x. ((g x).0, f x ∷ (g x).1)) xs
with_payload-map f g [] = refl
with_payload-map f g (x ∷ xs) = ap (λ (ys : List Head). ((g x).0, f x ∷ (g x).1) ∷ ys) (with_payload-map f g xs)

bundled : (fs : List (Fiber Head)) (p n : ℕ)
    → bundle (on_tokens (λ h. h.0) fs) (over (λ q. on_tokens (payload q) fs) p n) ≡ on_tokens (λ h. (h.0, over (λ q. payload q h) p n)) fs
bundled fs p zero = on_tokens-on_tokens bare (λ h. h.0) fs
bundled fs p (suc n) =
    ap (both with_payload (on_tokens (payload p) fs)) (bundled fs (suc p) n)
    ∙ both-tokens with_payload (payload p) (λ h. (h.0, over (λ q. payload q h) (suc p) n)) (λ h. (h.0, over (λ q. payload q h) p (suc n)))
    (with_payload-map (payload p) (λ h. (h.0, over (λ q. payload q h) (suc p) n))) fs

all_of-list : (xs : List Leaf) (p : ℕ) (get : ℕ → Leaf) → ((i : ℕ) → get (p + i) ≡ get_or xs i None) → over get p (length xs) ≡ xs
all_of-list [] p get e = refl
all_of-list (x ∷ xs) p get e =
    let first : get p ≡ x = ap get (omega arith) ∙ e 0 in
    let more : over get (suc p) (length xs) ≡ xs = all_of-list xs (suc p) get (λ i. ap get (omega arith) ∙ e (suc i)) in
    rw (first, more) refl

-- each head has w payloads
abbrev pub Wide : ℕ → List (Fiber Head) → Type 0
Wide w fs = EachToken (λ h. length h.1 ≡ w) fs

whole-head : (w : ℕ) (h : Head) → length h.1 ≡ w → (h.0, over (λ q. payload q h) 0 w) ≡ h
whole-head w h e =
    ap (λ (xs : List Leaf). (h.0, xs)) (ap (over (λ q. payload q h) 0) (sym e) ∙ all_of-list h.1 0 (λ q. payload q h) (λ i. ap (λ (x : ℕ). payload x h) (omega arith)))

whole-side : (w : ℕ) (fs : List (Fiber Head)) → Wide w fs → bundle (on_tokens (λ h. h.0) fs) (over (λ q. on_tokens (payload q) fs) 0 w) ≡ fs
whole-side w fs e =
    bundled fs 0 w ∙ on_tokens-ext (λ h. length h.1 ≡ w) (λ h. (h.0, over (λ q. payload q h) 0 w)) (λ h. h) (whole-head w) fs e ∙ on_tokens-same fs

-- the payloads of a side whose streams stand from port b on
payloads-read : (w b : ℕ) (fs : List (Fiber Head)) (ins : Streams) → Positive fs
    → ((q : ℕ) → q < suc w → port (b + q) ins ≡ flat (head_token q) fs)
    → map fibers_of (ports (suc b) w ins) ≡ over (λ q. on_tokens (payload q) fs) 0 w
payloads-read w b fs ins s at =
    map-over fibers_of (λ p. port p ins) (suc b) w
    ∙ over-ext (λ p. fibers_of (port p ins)) (λ q. on_tokens (payload q) fs) (suc b) 0 w
    (λ i lt. ap (λ (x : ℕ). fibers_of (port x ins)) (omega arith) ∙ ap fibers_of (at (suc i) (omega (arith, lt))) ∙ leaves-read (payload i) fs (inl s)
    ∙ ap (λ (x : ℕ). on_tokens (payload x) fs) (omega arith))

side-read : (w b : ℕ) (fs : List (Fiber Head)) (ins : Streams) → Positive fs → Wide w fs
    → ((q : ℕ) → q < suc w → port (b + q) ins ≡ flat (head_token q) fs)
    → bundle (numbers_of (port b ins)) (map fibers_of (ports (suc b) w ins)) ≡ fs
side-read w b fs ins s e at =
    let first : numbers_of (port b ins) ≡ on_tokens (λ h. h.0) fs =
    ap (λ (x : ℕ). numbers_of (port x ins)) (omega arith) ∙ ap numbers_of (at 0 (omega arith)) ∙ numbers-read (λ h. h.0) fs (inl s) in
    rw (first, payloads-read w b fs ins s at) (whole-side w fs e)

-- ---- both sides

positive-left : (j : List Sides) → AllClose j → Positive (map left_of j)
positive-left [] c = tt
positive-left (f ∷ fs) c = (c.0, positive-left fs c.1)

positive-right : (j : List Sides) → AllClose j → Positive (map right_of j)
positive-right [] c = tt
positive-right (f ∷ fs) c = (c.0, positive-right fs c.1)

sides-back : (j : List Sides) → sides_of (map left_of j) (map right_of j) ≡ j
sides-back [] = refl
sides-back (f ∷ fs) = ap (λ (x : List Sides). f ∷ x) (sides-back fs)

pub merge-read : (l r : ℕ) (j : List Sides) → AllClose j → Wide l (map left_of j) → Wide r (map right_of j)
    → merge_reading l r (merge_inputs l r j) ≡ j
merge-read l r j c wl wr =
    let left : bundle (numbers_of (port 0 (merge_inputs l r j))) (map fibers_of (ports 1 l (merge_inputs l r j))) ≡ map left_of j =
    side-read l 0 (map left_of j) (merge_inputs l r j) (positive-left j c) wl
    (λ q b. ap (λ (x : ℕ). port x (merge_inputs l r j)) (omega arith)
    ∙ before-others (λ p. flat (head_token p) (map left_of j)) 0 (suc l) q (side_streams r (map right_of j)) b
    ∙ ap (λ (x : ℕ). flat (head_token x) (map left_of j)) (omega arith)) in
    let right : bundle (numbers_of (port (suc l) (merge_inputs l r j))) (map fibers_of (ports (suc (suc l)) r (merge_inputs l r j))) ≡ map right_of j =
    side-read r (suc l) (map right_of j) (merge_inputs l r j) (positive-right j c) wr
    (λ q b. after-others (λ p. flat (head_token p) (map left_of j)) 0 (suc l) q (side_streams r (map right_of j))
    ∙ over-at (λ p. flat (head_token p) (map right_of j)) 0 (suc r) q [] b
    ∙ ap (λ (x : ℕ). flat (head_token x) (map right_of j)) (omega arith)) in
    rw (left, right) (sides-back j)
