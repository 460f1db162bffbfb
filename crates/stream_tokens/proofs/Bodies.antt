-- The streams of depth d + 1 are the leaves and stops below d, in any order, before the two last tokens.
use Rattle.std.specs.Prelude.{◌≡◌, ◌≤◌, ◌<◌, ◌↔◌, ◌⊎◌, ◌==◌, length, ℕ, zero, suc, ◌+◌, Bool, true, false, ◌&&◌, IsTrue, List, [], ◌∷◌, ◌++◌, Some, None, nat_lt, refl}
use Rattle.std.specs.List.{flat_map, list_all}
use mathlib.Core.List.{map}
use Rattle.std.proofs.Common.{arith, inl, inr, sym, ◌∙◌, ap, subst, append_assoc}
use Rattle.std.proofs.lemmas.Bool.Decides.{nat_tests}
use Rattle.std.proofs.lemmas.List.{same_from_push}
use Rattle.stream_tokens.specs.declared.Token.{Token}
use Rattle.stream_tokens.specs.declared.Token.TheVariants.{Item, Empty, Stop, Done}
use Rattle.stream_tokens.specs.Nest.{Nest, Leaf, leaf, between, joined_bodies, body, HasDepth}
use Rattle.stream_tokens.specs.Body.{is_inside, EndsAtDepth}

-- all these tokens may stand in a body whose stops are below n
abbrev Inside : ℕ → List Token → Type 0
Inside n m = list_all (is_inside n) m ≡ true

left-true : (a b : Bool) → (a && b) ≡ true → a ≡ true
left-true true b e = refl
left-true false b e = e

right-true : (a b : Bool) → (a && b) ≡ true → b ≡ true
right-true true b e = e
right-true false b e = absurd (cc)

both-true : (a b : Bool) → a ≡ true → b ≡ true → (a && b) ≡ true
both-true true b d e = e
both-true false b d e = d

none-below : (n : ℕ) → nat_lt n 0 ≡ true → ⊥
none-below n e = grind (arith, nat_tests)

below-or-same : (n k : ℕ) → nat_lt n (suc k) ≡ true → nat_lt n k ≡ false → n ≡ k
below-or-same n k d e = grind (arith, nat_tests)

is-below : (n k : ℕ) → n < k → nat_lt n k ≡ true
is-below n k h = grind (arith, nat_tests)

-- ---- any such tokens are a body

-- b writes each list of leaves and stops below k
abbrev Writes : {A : Type 0} → ℕ → (A → List Token) → Type 0
Writes {A = A} k b = (m : List Token) → Inside k m → (x : A) × (b x ≡ m)

writes-leaves : Writes 0 (joined_bodies 0 (λ (o : Leaf). leaf o ∷ []))
writes-leaves [] h = ([], refl)
writes-leaves (Item n ∷ m) h = let r = writes-leaves m h in (Some n ∷ r.0, ap (λ (x : List Token). Item n ∷ x) r.1)
writes-leaves (Empty ∷ m) h = let r = writes-leaves m h in (None ∷ r.0, ap (λ (x : List Token). Empty ∷ x) r.1)
writes-leaves (Stop n ∷ m) h = absurd (none-below n (left-true (nat_lt n 0) (list_all (is_inside 0) m) h))
writes-leaves (Done ∷ m) h = absurd (cc)

abbrev AllInside : ℕ → List (List Token) → Type 0
AllInside k [] = Unit {0}
AllInside k (x ∷ xs) = Inside k x × AllInside k xs

-- what stands between the stops k
record Parts (k : ℕ) (m : List Token) : Type 0 where
  first : List Token
  others : List (List Token)
  whole : between (Stop k) (first ∷ others) ≡ m
  first_in : Inside k first
  others_in : AllInside k others

before : (s t : Token) (x : List Token) (xs : List (List Token)) → between s ((t ∷ x) ∷ xs) ≡ t ∷ between s (x ∷ xs)
before s t x [] = refl
before s t x (y ∷ ys) = refl

one-more : (k : ℕ) (t : Token) (m : List Token) → is_inside k t ≡ true → Parts k m → Parts k (t ∷ m)
one-more k t m h p = record {
  first = t ∷ p.first;
  others = p.others;
  whole = before (Stop k) t p.first p.others ∙ ap (λ (x : List Token). t ∷ x) p.whole;
  first_in = both-true (is_inside k t) (list_all (is_inside k) p.first) h p.first_in;
  others_in = p.others_in;
}

a-stop : (k n : ℕ) (m : List Token) → n ≡ k → Parts k m → Parts k (Stop n ∷ m)
a-stop k n m e p = record {
  first = [];
  others = p.first ∷ p.others;
  whole = ap (λ (x : List Token). Stop k ∷ x) p.whole ∙ ap (λ (x : ℕ). Stop x ∷ m) (sym e);
  first_in = refl;
  others_in = (p.first_in, p.others_in);
}

parts : (k : ℕ) (m : List Token) → Inside (suc k) m → Parts k m
parts k [] h = record { first = []; others = []; whole = refl; first_in = refl; others_in = tt }
parts k (Item n ∷ m) h = one-more k (Item n) m refl (parts k m h)
parts k (Empty ∷ m) h = one-more k Empty m refl (parts k m h)
parts k (Stop n ∷ m) h =
    by_case (parts k m (right-true (nat_lt n (suc k)) (list_all (is_inside (suc k)) m) h)) (nat_lt n k) refl
  where
    by_case : Parts k m → (b : Bool) → nat_lt n k ≡ b → Parts k (Stop n ∷ m)
    by_case p true e = one-more k (Stop n) m e p
    by_case p false e = a-stop k n m (below-or-same n k (left-true (nat_lt n (suc k)) (list_all (is_inside (suc k)) m) h) e) p
parts k (Done ∷ m) h = absurd (cc)

written-all : {A : Type 0} (k : ℕ) (b : A → List Token) → Writes k b → (ms : List (List Token)) → AllInside k ms → (xs : List A) × (map b xs ≡ ms)
written-all k b w [] h = ([], refl)
written-all k b w (m ∷ ms) h =
    let x = w m h.0 in
    let r = written-all k b w ms h.1 in
    (x.0 ∷ r.0, rw (x.1, r.1) refl)

writes-joined : {A : Type 0} (k : ℕ) (b : A → List Token) → Writes k b → Writes (suc k) (joined_bodies (suc k) b)
writes-joined k b w m h =
    let p : Parts k m = parts k m h in
    let r = written-all k b w (p.first ∷ p.others) (p.first_in, p.others_in) in
    (r.0, ap (between (Stop k)) r.1 ∙ p.whole)

writes-body : {A : Type 0} (d k n : ℕ) (b : A → List Token) → Writes k b → n ≡ d + k → (m : List Token) → Inside n m
    → (t : Nest A d) × (body d (suc k) b t ≡ m)
writes-body zero k n b w e m h = w m (subst (λ (x : ℕ). Inside x m) (e ∙ omega arith) h)
writes-body {A = A} (suc d) k n b w e m h =
    writes-body {A = List A} d (suc k) n (joined_bodies (suc k) b) (writes-joined k b w) (omega (arith, e)) m h

-- ---- a body has no others

inside-both : (n : ℕ) (a b : List Token) → Inside n a → Inside n b → Inside n (a ++ b)
inside-both n [] b h k = k
inside-both n (t ∷ a) b h k =
    both-true (is_inside n t) (list_all (is_inside n) (a ++ b)) (left-true (is_inside n t) (list_all (is_inside n) a) h)
    (inside-both n a b (right-true (is_inside n t) (list_all (is_inside n) a) h) k)

inside-all : {A : Type 0} (n : ℕ) (b : A → List Token) → ((x : A) → Inside n (b x)) → (xs : List A) → Inside n (flat_map b xs)
inside-all n b h [] = refl
inside-all n b h (x ∷ xs) = inside-both n (b x) (flat_map b xs) (h x) (inside-all n b h xs)

inside-between : {A : Type 0} (n k : ℕ) (b : A → List Token) → k < n → ((x : A) → Inside n (b x)) → (xs : List A) → Inside n (between (Stop k) (map b xs))
inside-between n k b e h [] = refl
inside-between n k b e h (x ∷ []) = h x
inside-between n k b e h (x ∷ y ∷ xs) =
    inside-both n (b x) (Stop k ∷ between (Stop k) (map b (y ∷ xs))) (h x)
    (both-true (nat_lt k n) (list_all (is_inside n) (between (Stop k) (map b (y ∷ xs)))) (is-below k n e) (inside-between n k b e h (y ∷ xs)))

inside-joined : {A : Type 0} (n k : ℕ) (b : A → List Token) → k ≤ n → ((x : A) → Inside n (b x)) → (xs : List A) → Inside n (joined_bodies k b xs)
inside-joined n zero b e h xs = inside-all n b h xs
inside-joined n (suc k) b e h xs = inside-between n k b (omega (arith, e)) h xs

inside-body : {A : Type 0} (n d k : ℕ) (b : A → List Token) → d + k ≤ suc n → ((x : A) → Inside n (b x)) → (t : Nest A d) → Inside n (body d k b t)
inside-body n zero k b e h t = h t
inside-body {A = A} n (suc d) k b e h t =
    inside-body {A = List A} n d (suc k) (joined_bodies k b) (omega (arith, e)) (inside-joined n k b (omega (arith, e)) h) t

inside-leaf : (n : ℕ) (o : Leaf) → Inside n (leaf o ∷ [])
inside-leaf n None = refl
inside-leaf n (Some x) = refl

-- ---- the two last tokens

pub depth-ends : (d : ℕ) (e : Token) (m : List Token) → HasDepth d ((m ++ e ∷ []) ++ Done ∷ []) → EndsAtDepth d e m
depth-ends zero e m h =
    let a = same_from_push (m ++ e ∷ []) (leaf h.0 ∷ []) Done Done h.1 in
    let b = same_from_push m [] e (leaf h.0) a.0 in
    (h.0, b.1, b.0)
depth-ends (suc k) e m h =
    let t : List Token = body (suc k) 0 (λ (o : Leaf). leaf o ∷ []) h.0 in
    let inner : Inside k t = inside-body k (suc k) 0 (λ (o : Leaf). leaf o ∷ []) (omega arith) (inside-leaf k) h.0 in
    let a = same_from_push (m ++ e ∷ []) (t ++ Stop k ∷ []) Done Done (h.1 ∙ sym (append_assoc t (Stop k ∷ []) (Done ∷ []))) in
    let b = same_from_push m t e (Stop k) a.0 in
    (b.1, subst (λ (x : List Token). Inside k x) (sym b.0) inner)

pub ends-depth : (d : ℕ) (e : Token) (m : List Token) → EndsAtDepth d e m → HasDepth d ((m ++ e ∷ []) ++ Done ∷ [])
ends-depth zero e m h = (h.0, rw (h.1, h.2) refl)
ends-depth (suc k) e m h =
    let r = writes-body {A = List Leaf} k 0 k (joined_bodies 0 (λ (o : Leaf). leaf o ∷ [])) writes-leaves (omega arith) m h.1 in
    (r.0, append_assoc m (e ∷ []) (Done ∷ []) ∙ ap (λ (x : Token). m ++ x ∷ Done ∷ []) h.0 ∙ ap (λ (x : List Token). x ++ Stop k ∷ Done ∷ []) (sym r.1))

-- the two last tokens of a list decide
pub depth-is : (d : ℕ) (s m rest : List Token) (e : Token) → s ≡ rest ++ Done ∷ [] → rest ≡ m ++ e ∷ [] → HasDepth d s ↔ EndsAtDepth d e m
depth-is d s m rest e a b =
    let c : s ≡ (m ++ e ∷ []) ++ Done ∷ [] = a ∙ ap (λ (x : List Token). x ++ Done ∷ []) b in
    (λ h. depth-ends d e m (subst (HasDepth d) c h), λ h. subst (HasDepth d) (sym c) (ends-depth d e m h))

-- ---- the tests

a-leaf : (e : Token) → ((x : ℕ) × (e ≡ Item x)) ⊎ (e ≡ Empty) → (o : Leaf) × (e ≡ leaf o)
a-leaf e (inl h) = (Some h.0, h.1)
a-leaf e (inr h) = (None, h)

pub leaf-ends : (d : ℕ) (e : Token) (m : List Token) (r : Bool) → ((x : ℕ) × (e ≡ Item x)) ⊎ (e ≡ Empty) → d ≡ 0 → r ≡ (length m == 0)
    → IsTrue r ↔ EndsAtDepth d e m
leaf-ends zero e [] r l z q = let o = a-leaf e l in (λ h. (o.0, o.1, refl), λ h. q)
leaf-ends zero e (t ∷ m) r l z q = (λ h. absurd (grind (arith, nat_tests)), λ h. absurd (let x = h.2 in cc))
leaf-ends (suc d) e m r l z q = absurd (omega (arith, z))

pub stop-ends : (d k : ℕ) (e : Token) (m : List Token) (r : Bool) → e ≡ Stop k → k + 1 ≡ d → r ≡ list_all (is_inside k) m
    → IsTrue r ↔ EndsAtDepth d e m
stop-ends zero k e m r s z q = absurd (omega (arith, z))
stop-ends (suc d) k e m r s z q =
    let same : k ≡ d = omega (arith, z) in (
      λ h. (s ∙ ap Stop same, subst (λ (x : ℕ). list_all (is_inside x) m ≡ true) same (sym q ∙ h)),
      λ h. q ∙ subst (λ (x : ℕ). list_all (is_inside x) m ≡ true) (sym same) h.1,
    )
