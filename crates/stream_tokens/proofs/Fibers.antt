-- Streams as fibers: a tree's stream is its fibers written out, and the fibers of a stream are those of its tree.
use Rattle.std.specs.Prelude.{◌≡◌, ℕ, zero, suc, ◌+◌, List, [], ◌∷◌, ◌++◌, Some, None, refl}
use Rattle.std.specs.List.{flat_map}
use mathlib.Core.List.{map}
use Rattle.std.proofs.Common.{arith, inl, inr, sym, ◌∙◌, ap, subst, append_assoc, append-nil}
use Rattle.stream_tokens.specs.declared.Token.{Token}
use Rattle.stream_tokens.specs.declared.Token.TheVariants.{Stop, Done}
use Rattle.stream_tokens.specs.Nest.{Nest, Leaf, leaf, between, joined_bodies, body, stream_end, stream, Fiber, spread, beneath, fibers}
use Rattle.stream_tokens.specs.Flat.{fiber_tokens, closed, flat, put_leaf, fibers_of}
use Rattle.stream_tokens.specs.Shapes.{Positive, Shaped}

-- ---- a tree's stream

-- fibers of trees of depth k, which b writes, as tokens
abbrev spelled : {A : Type 0} → ℕ → (A → List Token) → List (Fiber A) → List Token
spelled k b [] = Done ∷ []
spelled k b (f ∷ fs) = joined_bodies k b f.0 ++ closed (f.1 + k) (spelled k b fs)

closes-alike : (m n : ℕ) (rest : List Token) → m ≡ n → closed m rest ≡ closed n rest
closes-alike m n rest e = ap (λ (x : ℕ). closed x rest) e

joined-nil : {A : Type 0} (k : ℕ) (b : A → List Token) → joined_bodies k b [] ≡ []
joined-nil zero b = refl
joined-nil (suc k) b = refl

joined-one : {A : Type 0} (k : ℕ) (b : A → List Token) (x : A) → joined_bodies k b (x ∷ []) ≡ b x
joined-one zero b x = append-nil (b x)
joined-one (suc k) b x = refl

-- a fiber of lists, as the fibers beneath it
spelled-spread : {A : Type 0} (k : ℕ) (b : A → List Token) (x : List A) (xs : List (List A)) (n : ℕ) (fs : List (Fiber A))
    → between (Stop k) (map (joined_bodies k b) (x ∷ xs)) ++ closed (n + suc k) (spelled k b fs) ≡ spelled k b (spread x xs n ++ fs)
spelled-spread k b x [] n fs = ap (λ (s : List Token). joined_bodies k b x ++ s) (closes-alike (n + suc k) (suc n + k) (spelled k b fs) (omega arith))
spelled-spread k b x (y ∷ ys) n fs =
    append_assoc (joined_bodies k b x) (Stop k ∷ between (Stop k) (map (joined_bodies k b) (y ∷ ys))) (closed (n + suc k) (spelled k b fs))
    ∙ ap (λ (s : List Token). joined_bodies k b x ++ (Stop k ∷ s)) (spelled-spread k b y ys n fs)
    ∙ ap (λ (s : List Token). joined_bodies k b x ++ s) (closes-alike (suc k) (1 + k) (spelled k b (spread y ys n ++ fs)) (omega arith))

spelled-beneath : {A : Type 0} (k : ℕ) (b : A → List Token) (fs : List (Fiber (List A)))
    → spelled (suc k) (joined_bodies k b) fs ≡ spelled k b (flat_map beneath fs)
spelled-beneath k b [] = refl
spelled-beneath k b (([], n) ∷ fs) =
    ap (closed (n + suc k)) (spelled-beneath k b fs)
    ∙ closes-alike (n + suc k) (suc n + k) (spelled k b (flat_map beneath fs)) (omega arith)
    ∙ ap (λ (s : List Token). s ++ closed (suc n + k) (spelled k b (flat_map beneath fs))) (sym (joined-nil k b))
spelled-beneath k b (((x ∷ xs), n) ∷ fs) =
    ap (λ (s : List Token). between (Stop k) (map (joined_bodies k b) (x ∷ xs)) ++ closed (n + suc k) s) (spelled-beneath k b fs)
    ∙ spelled-spread k b x xs n (flat_map beneath fs)

spelled-tree : {A : Type 0} (d k : ℕ) (b : A → List Token) (t : Nest A d) → body d k b t ++ stream_end (d + k) ≡ spelled k b (fibers d t)
spelled-tree zero k b t =
    ap (λ (s : List Token). s ++ stream_end (0 + k)) (sym (joined-one k b t)) ∙ ap (λ (s : List Token). joined_bodies k b (t ∷ []) ++ s) (at_end (0 + k))
  where
    at_end : (n : ℕ) → stream_end n ≡ closed n (Done ∷ [])
    at_end zero = refl
    at_end (suc n) = refl
spelled-tree {A = A} (suc d) k b t =
    ap (λ (n : ℕ). body {A = List A} d (suc k) (joined_bodies k b) t ++ stream_end n) (omega arith)
    ∙ spelled-tree {A = List A} d (suc k) (joined_bodies k b) t ∙ spelled-beneath k b (fibers {A = List A} d t)

leaves-written : (xs : List Leaf) (rest : List Token) → flat_map (λ o. leaf o ∷ []) xs ++ rest ≡ fiber_tokens leaf xs rest
leaves-written [] rest = refl
leaves-written (x ∷ xs) rest = ap (λ (s : List Token). leaf x ∷ s) (leaves-written xs rest)

spelled-flat : (fs : List (Fiber Leaf)) → spelled 0 (λ o. leaf o ∷ []) fs ≡ flat leaf fs
spelled-flat [] = refl
spelled-flat (f ∷ fs) =
    leaves-written f.0 (closed (f.1 + 0) (spelled 0 (λ o. leaf o ∷ []) fs))
    ∙ ap (fiber_tokens leaf f.0) (closes-alike (f.1 + 0) f.1 (spelled 0 (λ o. leaf o ∷ []) fs) (omega arith) ∙ ap (closed f.1) (spelled-flat fs))

pub stream-fibers : (d : ℕ) (t : Nest Leaf d) → stream d t ≡ flat leaf (fibers d t)
stream-fibers d t =
    ap (λ (n : ℕ). body d 0 (λ (o : Leaf). leaf o ∷ []) t ++ stream_end n) (omega arith)
    ∙ spelled-tree {A = Leaf} d 0 (λ o. leaf o ∷ []) t ∙ spelled-flat (fibers d t)

-- ---- the shape of a tree's fibers

pub positive-both : {A : Type 0} (fs gs : List (Fiber A)) → Positive fs → Positive gs → Positive (fs ++ gs)
positive-both [] gs a b = b
positive-both (f ∷ fs) gs a b = (a.0, positive-both fs gs a.1 b)

pub positive-spread : {A : Type 0} (x : List A) (xs : List (List A)) (n : ℕ) → Positive (spread x xs n)
positive-spread x [] n = ((n, refl), tt)
positive-spread x (y ∷ ys) n = ((0, refl), positive-spread y ys n)

pub positive-beneath : {A : Type 0} (f : Fiber (List A)) → Positive (beneath f)
positive-beneath ([], n) = ((n, refl), tt)
positive-beneath ((x ∷ xs), n) = positive-spread x xs n

pub beneath-positive : {A : Type 0} (fs : List (Fiber (List A))) → Positive (flat_map beneath fs)
beneath-positive [] = tt
beneath-positive (f ∷ fs) = positive-both (beneath f) (flat_map beneath fs) (positive-beneath f) (beneath-positive fs)

pub shaped-fibers : {A : Type 0} (d : ℕ) (t : Nest A d) → Shaped (fibers d t)
shaped-fibers zero t = inr (t, refl)
shaped-fibers {A = A} (suc d) t = inl (beneath-positive (fibers {A = List A} d t))

-- ---- the fibers of a stream

before-fiber : (x : Leaf) (ts : List Token) → fibers_of (leaf x ∷ ts) ≡ put_leaf x (fibers_of ts)
before-fiber None ts = refl
before-fiber (Some n) ts = refl

fiber-first : (xs : List Leaf) (k : ℕ) (rest : List Token) → fibers_of (fiber_tokens leaf xs (Stop k ∷ rest)) ≡ (xs, suc k) ∷ fibers_of rest
fiber-first [] k rest = refl
fiber-first (x ∷ xs) k rest = before-fiber x (fiber_tokens leaf xs (Stop k ∷ rest)) ∙ ap (put_leaf x) (fiber-first xs k rest)

fibers-positive : (fs : List (Fiber Leaf)) → Positive fs → fibers_of (flat leaf fs) ≡ fs
fibers-positive [] w = refl
fibers-positive ((xs, n) ∷ fs) w =
    subst (λ (x : ℕ). fibers_of (flat leaf ((xs, x) ∷ fs)) ≡ (xs, x) ∷ fs) (sym w.0.1)
    (fiber-first xs w.0.0 (flat leaf fs) ∙ ap (λ (gs : List (Fiber Leaf)). (xs, suc w.0.0) ∷ gs) (fibers-positive fs w.1))

pub fibers_of-flat : (fs : List (Fiber Leaf)) → Shaped fs → fibers_of (flat leaf fs) ≡ fs
fibers_of-flat fs (inl w) = fibers-positive fs w
fibers_of-flat fs (inr s) =
    subst (λ (gs : List (Fiber Leaf)). fibers_of (flat leaf gs) ≡ gs) (sym s.1) (before-fiber s.0 (Done ∷ []))

pub fibers_of-stream : (d : ℕ) (t : Nest Leaf d) → fibers_of (stream d t) ≡ fibers d t
fibers_of-stream d t = ap fibers_of (stream-fibers d t) ∙ fibers_of-flat (fibers d t) (shaped-fibers d t)
