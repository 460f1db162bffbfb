-- How the functions on fibers go with one another: each law holds for every list of fibers.
use Rattle.std.specs.Prelude.{◌≡◌, ℕ, zero, suc, List, [], ◌∷◌, ◌++◌, refl}
use Rattle.std.specs.List.{flat_map}
use mathlib.Core.List.{map}
use Rattle.std.proofs.Common.{sym, ◌∙◌, ap, subst}
use Rattle.stream_tokens.specs.declared.Token.{Token}
use Rattle.stream_tokens.specs.Nest.{Nest, nmap, Fiber, spread, beneath, fibers}
use Rattle.stream_tokens.specs.Flat.{fiber_tokens, closed, flat}
use Rattle.stream_tokens.specs.Shapes.{on_fiber, on_fibers, on_tokens, beneath_by, under, both, beside, fibers_past, split, put_first, cut, at_least_one, pairs, Positive, Each, EachToken}
use Rattle.stream_tokens.proofs.Fibers.{positive-both, positive-beneath}

pub map-map : {A B C : Type 0} (f : B → C) (g : A → B) (xs : List A) → map f (map g xs) ≡ map (λ x. f (g x)) xs
map-map f g [] = refl
map-map f g (x ∷ xs) = ap (λ (ys : List _). f (g x) ∷ ys) (map-map f g xs)

pub map-same : {A : Type 0} (xs : List A) → map (λ x. x) xs ≡ xs
map-same [] = refl
map-same (x ∷ xs) = ap (λ (ys : List _). x ∷ ys) (map-same xs)

-- ---- tokens

pub on_tokens-on_tokens : {A B C : Type 0} (f : B → C) (g : A → B) (fs : List (Fiber A)) → on_tokens f (on_tokens g fs) ≡ on_tokens (λ x. f (g x)) fs
on_tokens-on_tokens f g [] = refl
on_tokens-on_tokens f g (x ∷ fs) = rw (map-map f g x.0, on_tokens-on_tokens f g fs) refl

pub on_tokens-same : {A : Type 0} (fs : List (Fiber A)) → on_tokens (λ x. x) fs ≡ fs
on_tokens-same [] = refl
on_tokens-same (x ∷ fs) = rw (map-same x.0, on_tokens-same fs) refl

written-map : {A B : Type 0} (t : B → Token) (f : A → B) (xs : List A) (ts : List Token) → fiber_tokens t (map f xs) ts ≡ fiber_tokens (λ x. t (f x)) xs ts
written-map t f [] ts = refl
written-map t f (x ∷ xs) ts = ap (λ (s : List Token). t (f x) ∷ s) (written-map t f xs ts)

pub flat-on_tokens : {A B : Type 0} (t : B → Token) (f : A → B) (fs : List (Fiber A)) → flat t (on_tokens f fs) ≡ flat (λ x. t (f x)) fs
flat-on_tokens t f [] = refl
flat-on_tokens t f (x ∷ fs) =
    written-map t f x.0 (closed x.1 (flat t (on_tokens f fs))) ∙ ap (λ (s : List Token). fiber_tokens (λ x. t (f x)) x.0 (closed x.1 s)) (flat-on_tokens t f fs)

pub both-tokens : {A B C D : Type 0} (h : List B → List C → List D) (f : A → B) (g : A → C) (k : A → D)
    → ((xs : List A) → h (map f xs) (map g xs) ≡ map k xs) → (fs : List (Fiber A)) → both h (on_tokens f fs) (on_tokens g fs) ≡ on_tokens k fs
both-tokens h f g k e [] = refl
both-tokens h f g k e (x ∷ fs) = rw (e x.0, both-tokens h f g k e fs) refl

pub pairs-map : {A B C : Type 0} (f : A → B) (g : A → C) (xs : List A) → pairs (map f xs) (map g xs) ≡ map (λ x. (f x, g x)) xs
pairs-map f g [] = refl
pairs-map f g (x ∷ xs) = ap (λ (ys : List _). (f x, g x) ∷ ys) (pairs-map f g xs)

pub both-pairs : {A B C : Type 0} (f : A → B) (g : A → C) (fs : List (Fiber A))
    → both pairs (on_tokens f fs) (on_tokens g fs) ≡ on_tokens (λ x. (f x, g x)) fs
both-pairs f g fs = both-tokens pairs f g (λ x. (f x, g x)) (pairs-map f g) fs

-- ---- what lies beneath

pub under-on_tokens : {A B C : Type 0} (f : B → List C) (g : A → B) (fs : List (Fiber A)) → under f (on_tokens g fs) ≡ under (λ x. f (g x)) fs
under-on_tokens f g [] = refl
under-on_tokens f g (x ∷ fs) = rw (map-map f g x.0, under-on_tokens f g fs) refl

on_fibers-both : {A B : Type 0} (h : List A → List B) (fs gs : List (Fiber A)) → on_fibers h (fs ++ gs) ≡ on_fibers h fs ++ on_fibers h gs
on_fibers-both h [] gs = refl
on_fibers-both h (f ∷ fs) gs = ap (λ (x : List (Fiber _)). on_fiber h f ∷ x) (on_fibers-both h fs gs)

on_fibers-spread : {A B C : Type 0} (h : List B → List C) (f : A → List B) (x : A) (xs : List A) (n : ℕ)
    → on_fibers h (spread (f x) (map f xs) n) ≡ spread (h (f x)) (map (λ y. h (f y)) xs) n
on_fibers-spread h f x [] n = refl
on_fibers-spread h f x (y ∷ ys) n = ap (λ (gs : List (Fiber _)). (h (f x), 1) ∷ gs) (on_fibers-spread h f y ys n)

on_fibers-beneath : {A B C : Type 0} (h : List B → List C) (f : A → List B) → h [] ≡ [] → (x : Fiber A)
    → on_fibers h (beneath_by f x) ≡ beneath_by (λ y. h (f y)) x
on_fibers-beneath h f e ([], n) = rw e refl
on_fibers-beneath h f e ((x ∷ xs), n) = on_fibers-spread h f x xs n

pub on_fibers-under : {A B C : Type 0} (h : List B → List C) (f : A → List B) → h [] ≡ [] → (fs : List (Fiber A))
    → on_fibers h (under f fs) ≡ under (λ x. h (f x)) fs
on_fibers-under h f e [] = refl
on_fibers-under h f e (x ∷ fs) =
    on_fibers-both h (beneath_by f x) (under f fs) ∙ rw (on_fibers-beneath h f e x, on_fibers-under h f e fs) refl

both-spread : {A B C D : Type 0} (h : List B → List C → List D) (f : A → List B) (g : A → List C) (x : A) (xs : List A) (n : ℕ)
    (fs : List (Fiber B)) (gs : List (Fiber C))
    → both h (spread (f x) (map f xs) n ++ fs) (spread (g x) (map g xs) n ++ gs) ≡ spread (h (f x) (g x)) (map (λ y. h (f y) (g y)) xs) n ++ both h fs gs
both-spread h f g x [] n fs gs = refl
both-spread h f g x (y ∷ ys) n fs gs = ap (λ (z : List (Fiber _)). (h (f x) (g x), 1) ∷ z) (both-spread h f g y ys n fs gs)

pub both-under : {A B C D : Type 0} (h : List B → List C → List D) (f : A → List B) (g : A → List C) → h [] [] ≡ [] → (fs : List (Fiber A))
    → both h (under f fs) (under g fs) ≡ under (λ x. h (f x) (g x)) fs
both-under h f g e [] = refl
both-under h f g e (([], n) ∷ fs) = rw (e, both-under h f g e fs) refl
both-under h f g e (((x ∷ xs), n) ∷ fs) =
    both-spread h f g x xs n (under f fs) (under g fs)
    ∙ ap (λ (z : List (Fiber _)). spread (h (f x) (g x)) (map (λ y. h (f y) (g y)) xs) n ++ z) (both-under h f g e fs)

beside-spread : {A B C : Type 0} (f : A → B) (g : A → List C) (x : A) (xs : List A) (n : ℕ) (gs : List (Fiber C))
    → beside (map f (x ∷ xs)) (spread (g x) (map g xs) n ++ gs) ≡ map (λ y. (f y, g y)) (x ∷ xs)
beside-spread f g x [] n gs = refl
beside-spread f g x (y ∷ ys) n gs = ap (λ (z : List _). (f x, g x) ∷ z) (beside-spread f g y ys n gs)

past-spread : {A B C : Type 0} (f : A → B) (g : A → List C) (x : A) (xs : List A) (n : ℕ) (gs : List (Fiber C))
    → fibers_past (map f (x ∷ xs)) (spread (g x) (map g xs) n ++ gs) ≡ gs
past-spread f g x [] n gs = refl
past-spread f g x (y ∷ ys) n gs = past-spread f g y ys n gs

pub split-under : {A B C : Type 0} (f : A → B) (g : A → List C) (fs : List (Fiber A))
    → split (on_tokens f fs) (under g fs) ≡ on_tokens (λ x. (f x, g x)) fs
split-under f g [] = refl
split-under f g (([], n) ∷ fs) = ap (λ (z : List (Fiber _)). ([], n) ∷ z) (split-under f g fs)
split-under f g (((x ∷ xs), n) ∷ fs) =
    rw (beside-spread f g x xs n (under g fs), past-spread f g x xs n (under g fs), split-under f g fs) refl

cut-spread : {A B : Type 0} (f : A → List B) (x : A) (xs : List A) (k : ℕ) (fs : List (Fiber B))
    → cut (spread (f x) (map f xs) (suc k) ++ fs) ≡ (map f (x ∷ xs), suc k) ∷ cut fs
cut-spread f x [] k fs = refl
cut-spread f x (y ∷ ys) k fs = ap (put_first (f x)) (cut-spread f y ys k fs)

pub cut-under : {A B : Type 0} (f : A → List B) (fs : List (Fiber A)) → Positive fs
    → cut (under f fs) ≡ on_fibers (λ xs. at_least_one (map f xs)) fs
cut-under f [] w = refl
cut-under f (([], n) ∷ fs) w =
    subst (λ (x : ℕ). cut (under f (([], x) ∷ fs)) ≡ on_fibers (λ xs. at_least_one (map f xs)) (([], x) ∷ fs)) (sym w.0.1)
    (ap (λ (z : List (Fiber _)). (([] ∷ []), suc w.0.0) ∷ z) (cut-under f fs w.1))
cut-under f (((x ∷ xs), n) ∷ fs) w =
    subst (λ (y : ℕ). cut (under f (((x ∷ xs), y) ∷ fs)) ≡ on_fibers (λ xs. at_least_one (map f xs)) (((x ∷ xs), y) ∷ fs)) (sym w.0.1)
    (cut-spread f x xs w.0.0 (under f fs) ∙ ap (λ (z : List (Fiber _)). (map f (x ∷ xs), suc w.0.0) ∷ z) (cut-under f fs w.1))

-- ---- what holds of each token

pub Each-imp : {A : Type 0} (P Q : A → Type 0) → ((x : A) → P x → Q x) → (xs : List A) → Each P xs → Each Q xs
Each-imp P Q h [] e = tt
Each-imp P Q h (x ∷ xs) e = (h x e.0, Each-imp P Q h xs e.1)

pub map-ext : {A B : Type 0} (Q : A → Type 0) (f g : A → B) → ((x : A) → Q x → f x ≡ g x) → (xs : List A) → Each Q xs → map f xs ≡ map g xs
map-ext Q f g h [] e = refl
map-ext Q f g h (x ∷ xs) e = rw (h x e.0, map-ext Q f g h xs e.1) refl

pub under-ext : {A B : Type 0} (Q : A → Type 0) (f g : A → List B) → ((x : A) → Q x → f x ≡ g x) → (fs : List (Fiber A)) → EachToken Q fs
    → under f fs ≡ under g fs
under-ext Q f g h [] e = refl
under-ext Q f g h (x ∷ fs) e = rw (map-ext Q f g h x.0 e.0, under-ext Q f g h fs e.1) refl

pub on_tokens-ext : {A B : Type 0} (Q : A → Type 0) (f g : A → B) → ((x : A) → Q x → f x ≡ g x) → (fs : List (Fiber A)) → EachToken Q fs
    → on_tokens f fs ≡ on_tokens g fs
on_tokens-ext Q f g h [] e = refl
on_tokens-ext Q f g h (x ∷ fs) e = rw (map-ext Q f g h x.0 e.0, on_tokens-ext Q f g h fs e.1) refl

each-token-both : {A : Type 0} (Q : A → Type 0) (fs gs : List (Fiber A)) → EachToken Q fs → EachToken Q gs → EachToken Q (fs ++ gs)
each-token-both Q [] gs a b = b
each-token-both Q (f ∷ fs) gs a b = (a.0, each-token-both Q fs gs a.1 b)

each-spread : {A B : Type 0} (Q : A → Type 0) (R : B → Type 0) (f : A → List B) → ((x : A) → Q x → Each R (f x)) → (x : A) (xs : List A) (n : ℕ)
    → Each Q (x ∷ xs) → EachToken R (spread (f x) (map f xs) n)
each-spread Q R f h x [] n e = (h x e.0, tt)
each-spread Q R f h x (y ∷ ys) n e = (h x e.0, each-spread Q R f h y ys n e.1)

each-beneath : {A B : Type 0} (Q : A → Type 0) (R : B → Type 0) (f : A → List B) → ((x : A) → Q x → Each R (f x)) → (x : Fiber A)
    → Each Q x.0 → EachToken R (beneath_by f x)
each-beneath Q R f h ([], n) e = (tt, tt)
each-beneath Q R f h ((x ∷ xs), n) e = each-spread Q R f h x xs n e

pub EachToken-under : {A B : Type 0} (Q : A → Type 0) (R : B → Type 0) (f : A → List B) → ((x : A) → Q x → Each R (f x)) → (fs : List (Fiber A))
    → EachToken Q fs → EachToken R (under f fs)
EachToken-under Q R f h [] e = tt
EachToken-under Q R f h (x ∷ fs) e = each-token-both R (beneath_by f x) (under f fs) (each-beneath Q R f h x e.0) (EachToken-under Q R f h fs e.1)

-- ---- closes

pub Positive-under : {A B : Type 0} (f : A → List B) (fs : List (Fiber A)) → Positive (under f fs)
Positive-under f [] = tt
Positive-under f (x ∷ fs) = positive-both (beneath_by f x) (under f fs) (positive-beneath (map f x.0, x.1)) (Positive-under f fs)

pub Positive-on_fibers : {A B : Type 0} (h : List A → List B) (fs : List (Fiber A)) → Positive fs → Positive (on_fibers h fs)
Positive-on_fibers h [] w = tt
Positive-on_fibers h (f ∷ fs) w = (w.0, Positive-on_fibers h fs w.1)

-- ---- trees

pub fibers-nmap : {A B : Type 0} (d : ℕ) (f : A → B) (t : Nest A d) → fibers d (nmap d f t) ≡ on_tokens f (fibers d t)
fibers-nmap zero f t = refl
fibers-nmap {A = A} {B = B} (suc d) f t =
    ap (λ (fs : List (Fiber (List B))). flat_map beneath fs) (fibers-nmap {A = List A} {B = List B} d (map f) t) ∙ mapped (fibers {A = List A} d t)
  where
    spreads : (x : List A) (xs : List (List A)) (n : ℕ) → spread (map f x) (map (map f) xs) n ≡ on_fibers (map f) (spread x xs n)
    spreads x [] n = refl
    spreads x (y ∷ ys) n = ap (λ (gs : List (Fiber B)). (map f x, 1) ∷ gs) (spreads y ys n)

    one : (g : Fiber (List A)) → beneath (on_fiber (map (map f)) g) ≡ on_fibers (map f) (beneath g)
    one ([], n) = refl
    one ((x ∷ xs), n) = spreads x xs n

    mapped : (fs : List (Fiber (List A))) → flat_map beneath (on_tokens (map f) fs) ≡ on_tokens f (flat_map beneath fs)
    mapped [] = refl
    mapped (g ∷ fs) =
        rw (one g, mapped fs) refl ∙ sym (on_fibers-both (map f) (beneath g) (flat_map beneath fs))

-- a tree grown by one level at its leaves
pub fibers-grown : {A B : Type 0} (d : ℕ) (f : A → List B) (t : Nest A d) → fibers {A = B} (suc d) (nmap {A = A} {B = List B} d f t) ≡ under f (fibers d t)
fibers-grown {A = A} {B = B} d f t = ap (λ (fs : List (Fiber (List B))). flat_map beneath fs) (fibers-nmap {A = A} {B = List B} d f t) ∙ mapped (fibers d t)
  where
    mapped : (fs : List (Fiber A)) → flat_map beneath (on_tokens f fs) ≡ under f fs
    mapped [] = refl
    mapped (g ∷ fs) = ap (λ (gs : List (Fiber B)). beneath_by f g ++ gs) (mapped fs)
