-- Ascending pairs of a parent and a coordinate.
use Rattle.std.proofs.Common.{◌≡◌, ℕ, zero, suc, ◌+◌, ◌<◌, ◌≤◌, Bool, true, false, cond, ◌&&◌, ◌||◌, List, [], ◌∷◌, ◌++◌, eqb, ltb, refl, ap, sym, ◌∙◌, subst, arith}
use Rattle.std.specs.List.{flat_map, filter, list_any, range_with_len}
use mathlib.Core.List.{map}
use Rattle.std.proofs.lemmas.Bool.Decides.{nat_tests}
use Rattle.sam_model.specs.Lists.{below}
use Rattle.sam_base.specs.Each.{Each}
use Rattle.sam_model.proofs.Lists.{Each-append, Each-mapped, Each-always, Each-flat_map, Each-weaker, Each-filter, filter-flat_map, filter-map, flat_map-ext-each}
use Rattle.levels.specs.Sorted.{Sorted}
use Rattle.levels.specs.Pairs.{same_pair, pair_below, NotAfter, with_pair, with_pairs}
use Rattle.levels.proofs.Orders.{eqb-same, eqb-true, and-left, and-right}

abbrev pub Before : ℕ × ℕ → ℕ × ℕ → Type 0
Before x y = pair_below x y ≡ true

-- whether a pair is there
abbrev pub has : List (ℕ × ℕ) → ℕ × ℕ → Bool
has pairs z = list_any (λ x. same_pair x z) pairs

-- ---- the order of pairs

pub same_pair-true : (x y : ℕ × ℕ) → same_pair x y ≡ true → x ≡ y
same_pair-true x y h =
    let a : x.0 ≡ y.0 = eqb-true x.0 y.0 (and-left (eqb x.0 y.0) (eqb x.1 y.1) h) in
    let b : x.1 ≡ y.1 = eqb-true x.1 y.1 (and-right (eqb x.0 y.0) (eqb x.1 y.1) h) in
    pair-is x y a b
  where
    pair-is : (x y : ℕ × ℕ) → x.0 ≡ y.0 → x.1 ≡ y.1 → x ≡ y
    pair-is (a, b) (c, d) e f = ap (λ n. (n, b)) e ∙ ap (λ n. (c, n)) f

pub same_pair-self : (x : ℕ × ℕ) → same_pair x x ≡ true
same_pair-self x = rw (eqb-same x.0, eqb-same x.1) refl

apart2 : (a b c d : ℕ) → (ltb a c || (eqb a c && ltb b d)) ≡ true → (eqb a c && eqb b d) ≡ false
apart2 a b c d h = grind (arith, nat_tests)

pub before-apart : (x y : ℕ × ℕ) → Before x y → same_pair x y ≡ false
before-apart x y h = apart2 x.0 x.1 y.0 y.1 h

join2 : (a b c d e f : ℕ) → (ltb a c || (eqb a c && ltb b d)) ≡ true → (ltb e c || (eqb e c && ltb f d)) ≡ false → (ltb a e || (eqb a e && ltb b f)) ≡ true
join2 a b c d e f h k = grind (arith, nat_tests)

pub before-then : (x y z : ℕ × ℕ) → Before x y → NotAfter y z → Before x z
before-then x y z h k = join2 x.0 x.1 y.0 y.1 z.0 z.1 h k

new2 : (a b c d : ℕ) → (ltb c a || (eqb c a && ltb d b)) ≡ false → (eqb a c && eqb b d) ≡ false → (ltb a c || (eqb a c && ltb b d)) ≡ true
new2 a b c d h k = grind (arith, nat_tests)

pub before-new : (x y : ℕ × ℕ) → NotAfter x y → same_pair x y ≡ false → Before x y
before-new x y h k = new2 x.0 x.1 y.0 y.1 h k

both2 : (a b c d : ℕ) → (ltb a c || (eqb a c && ltb b d)) ≡ true → (ltb c a || (eqb c a && ltb d b)) ≡ true → ⊥
both2 a b c d h k = grind (arith, nat_tests)

-- ---- a list that grows at its end

pub Each-with_pair : (Q : ℕ × ℕ → Type 0) (pairs : List (ℕ × ℕ)) (x : ℕ × ℕ) → Each Q pairs → Q x → Each Q (with_pair pairs x)
Each-with_pair Q [] x h q = (q, tt)
Each-with_pair Q (y ∷ []) x h q = by_case (same_pair y x)
  where
    by_case : (b : Bool) → Each Q (cond b (y ∷ []) (y ∷ x ∷ []))
    by_case true = (h.0, tt)
    by_case false = (h.0, (q, tt))
Each-with_pair Q (y ∷ z ∷ pairs) x h q = (h.0, Each-with_pair Q (z ∷ pairs) x h.1 q)

pub Sorted-with_pair : (pairs : List (ℕ × ℕ)) (x : ℕ × ℕ) → Sorted Before pairs → Each (λ y. NotAfter y x) pairs → Sorted Before (with_pair pairs x)
Sorted-with_pair [] x up le = (tt, tt)
Sorted-with_pair (y ∷ []) x up le = by_case (same_pair y x) refl
  where
    by_case : (b : Bool) → same_pair y x ≡ b → Sorted Before (cond b (y ∷ []) (y ∷ x ∷ []))
    by_case true e = (tt, tt)
    by_case false e = ((before-new y x le.0 e, tt), (tt, tt))
Sorted-with_pair (y ∷ z ∷ pairs) x up le =
    (Each-with_pair (Before y) (z ∷ pairs) x up.0 (before-then y z x up.0.0 le.1.0), Sorted-with_pair (z ∷ pairs) x up.1 le.1)

pub Sorted-with_pairs : (xs pairs : List (ℕ × ℕ)) → Sorted Before pairs → Sorted NotAfter xs → Each (λ y. Each (NotAfter y) xs) pairs → Sorted Before (with_pairs pairs xs)
Sorted-with_pairs [] pairs up vp le = up
Sorted-with_pairs (x ∷ xs) pairs up vp le =
    Sorted-with_pairs xs (with_pair pairs x)
    (Sorted-with_pair pairs x up (Each-weaker (λ y. Each (NotAfter y) (x ∷ xs)) (λ y. NotAfter y x) (λ y h. h.0) pairs le)) vp.1
    (Each-with_pair (λ y. Each (NotAfter y) xs) pairs x (Each-weaker (λ y. Each (NotAfter y) (x ∷ xs)) (λ y. Each (NotAfter y) xs) (λ y h. h.1) pairs le) vp.0)

or-assoc : (a b c : Bool) → (a || (b || c)) ≡ ((a || b) || c)
or-assoc true b c = refl
or-assoc false b c = refl

or-false : (a : Bool) → (a || false) ≡ a
or-false true = refl
or-false false = refl

or-same : (a : Bool) → (a || a) ≡ a
or-same true = refl
or-same false = refl

pub has-with_pair : (pairs : List (ℕ × ℕ)) (x z : ℕ × ℕ) → has (with_pair pairs x) z ≡ (has pairs z || same_pair x z)
has-with_pair [] x z = or-false (same_pair x z)
has-with_pair (y ∷ []) x z = by_case (same_pair y x) refl
  where
    by_case : (b : Bool) → same_pair y x ≡ b → has (cond b (y ∷ []) (y ∷ x ∷ [])) z ≡ ((same_pair y z || false) || same_pair x z)
    by_case true e =
        let s = same_pair-true y x e in
        or-false (same_pair y z) ∙ sym (ap (λ b. b || same_pair x z) (or-false (same_pair y z)) ∙ ap (λ t. same_pair y z || same_pair t z) (sym s) ∙ or-same (same_pair y z))
    by_case false e = ap (λ b. same_pair y z || b) (or-false (same_pair x z)) ∙ ap (λ b. b || same_pair x z) (sym (or-false (same_pair y z)))
has-with_pair (y ∷ u ∷ pairs) x z = ap (λ b. same_pair y z || b) (has-with_pair (u ∷ pairs) x z) ∙ or-assoc (same_pair y z) (has (u ∷ pairs) z) (same_pair x z)

pub has-with_pairs : (xs pairs : List (ℕ × ℕ)) (z : ℕ × ℕ) → has (with_pairs pairs xs) z ≡ (has pairs z || has xs z)
has-with_pairs [] pairs z = sym (or-false (has pairs z))
has-with_pairs (x ∷ xs) pairs z =
    has-with_pairs xs (with_pair pairs x) z ∙ ap (λ b. b || has xs z) (has-with_pair pairs x z) ∙ sym (or-assoc (has pairs z) (same_pair x z) (has xs z))

-- ---- ascending lists with the same pairs are equal

absent : (xs : List (ℕ × ℕ)) (x : ℕ × ℕ) → Each (Before x) xs → has xs x ≡ false
absent [] x h = refl
absent (y ∷ xs) x h = rw (not-same y x h.0) (absent xs x h.1)
  where
    not2 : (a b c d : ℕ) → (ltb a c || (eqb a c && ltb b d)) ≡ true → (eqb c a && eqb d b) ≡ false
    not2 a b c d h = grind (arith, nat_tests)

    not-same : (y x : ℕ × ℕ) → Before x y → same_pair y x ≡ false
    not-same y x h = not2 x.0 x.1 y.0 y.1 h

found-after : (xs : List (ℕ × ℕ)) (x y : ℕ × ℕ) → Each (Before y) xs → has xs x ≡ true → Before y x
found-after [] x y h f = cc
found-after (z ∷ xs) x y h f = by_case (same_pair z x) refl (found-after xs x y h.1)
  where
    by_case : (b : Bool) → same_pair z x ≡ b → (has xs x ≡ true → Before y x) → Before y x
    by_case true e r = subst (λ (u : ℕ × ℕ). pair_below y u ≡ true) (same_pair-true z x e) h.0
    by_case false e r = let g : (same_pair z x || has xs x) ≡ true = f in r (rw e at g)

same-head : (x y : ℕ × ℕ) (xs ys : List (ℕ × ℕ)) → Each (Before x) xs → Each (Before y) ys → ((z : ℕ × ℕ) → has (x ∷ xs) z ≡ has (y ∷ ys) z) → x ≡ y
same-head x y xs ys up vp same = by_case (same_pair y x) refl
  where
    by_case : (b : Bool) → same_pair y x ≡ b → x ≡ y
    by_case true e = sym (same_pair-true y x e)
    by_case false e =
        let there : (same_pair y x || has ys x) ≡ true = sym (same x) ∙ ap (λ b. b || has xs x) (same_pair-self x) in
        let yx : Before y x = found-after ys x y vp (rw e at there) in
        let here : (same_pair x y || has xs y) ≡ true = same y ∙ ap (λ b. b || has ys y) (same_pair-self y) in
        let xy : Before x y = other (same_pair x y) refl here in
        absurd (both2 x.0 x.1 y.0 y.1 xy yx)
      where
        other : (b : Bool) → same_pair x y ≡ b → (same_pair x y || has xs y) ≡ true → Before x y
        other true e' h = let s = same_pair-true x y e' in let t : same_pair y x ≡ true = subst (λ (u : ℕ × ℕ). same_pair u x ≡ true) s (same_pair-self x) in cc
        other false e' h = found-after xs y x up (rw e' at h)

pub same-pairs : (xs ys : List (ℕ × ℕ)) → Sorted Before xs → Sorted Before ys → ((z : ℕ × ℕ) → has xs z ≡ has ys z) → xs ≡ ys
same-pairs [] [] up vp same = refl
same-pairs [] (y ∷ ys) up vp same = let s : false ≡ (same_pair y y || has ys y) = same y in let t = rw (same_pair-self y) at s in cc
same-pairs (x ∷ xs) [] up vp same = let s : (same_pair x x || has xs x) ≡ false = same x in let t = rw (same_pair-self x) at s in cc
same-pairs (x ∷ xs) (y ∷ ys) up vp same =
    let e : x ≡ y = same-head x y xs ys up.0 vp.0 same in
    let vp' : Each (Before x) ys = subst (λ (u : ℕ × ℕ). Each (Before u) ys) (sym e) vp.0 in
    let same' : (z : ℕ × ℕ) → (same_pair x z || has xs z) ≡ (same_pair x z || has ys z) = λ z. same z ∙ ap (λ u. same_pair u z || has ys z) (sym e) in
    let r = same-pairs xs ys up.1 vp.1 (λ z. tails z up.0 vp' (same' z) (same_pair x z) refl) in
    cc (e, r)
  where
    tails : (z : ℕ × ℕ) → Each (Before x) xs → Each (Before x) ys → (same_pair x z || has xs z) ≡ (same_pair x z || has ys z) → (b : Bool) → same_pair x z ≡ b → has xs z ≡ has ys z
    tails z u v s true e = let t = same_pair-true x z e in subst (λ (w : ℕ × ℕ). has xs w ≡ has ys w) t (absent xs x u ∙ sym (absent ys x v))
    tails z u v s false e = rw e at s

-- ---- pairs by parents

-- the pairs of n parents from a on, where parent r has the coordinates K r
abbrev pub pairs_by : (ℕ → List ℕ) → ℕ → ℕ → List (ℕ × ℕ)
pairs_by K a n = flat_map (λ r. map (λ c. (r, c)) (K r)) (range_with_len a n)

pub range-inside : (a n : ℕ) → Each (λ r. (a ≤ r) × (r < a + n)) (range_with_len a n)
range-inside a zero = tt
range-inside a (suc n) =
    ((omega arith, omega arith), Each-weaker (λ r. (a + 1 ≤ r) × (r < a + 1 + n)) (λ r. (a ≤ r) × (r < a + suc n)) (λ r h. (omega arith, omega arith)) (range_with_len (a + 1) n) (range-inside (a + 1) n))

pub below-inside : (n : ℕ) → Each (λ r. r < n) (below n)
below-inside n = Each-weaker (λ r. (0 ≤ r) × (r < 0 + n)) (λ r. r < n) (λ r h. omega arith) (below n) (range-inside 0 n)

pub parents-from : (K : ℕ → List ℕ) (a n : ℕ) → Each (λ x. a ≤ x.0) (pairs_by K a n)
parents-from K a n =
    Each-flat_map (λ r. (a ≤ r) × (r < a + n)) (λ x. a ≤ x.0) (λ r. map (λ c. (r, c)) (K r))
    (λ r h. Each-mapped (λ x. a ≤ x.0) (λ c. (r, c)) (K r) (Each-always (λ (c : ℕ). a ≤ r) (λ c. h.0) (K r))) (range_with_len a n) (range-inside a n)

Sorted-append : (xs ys : List (ℕ × ℕ)) → Sorted Before xs → Sorted Before ys → Each (λ x. Each (Before x) ys) xs → Sorted Before (xs ++ ys)
Sorted-append [] ys up vp all = vp
Sorted-append (x ∷ xs) ys up vp all = (Each-append (Before x) xs ys up.0 all.0, Sorted-append xs ys up.1 vp all.1)

Sorted-row : (r a n : ℕ) → Sorted Before (map (λ c. (r, c)) (range_with_len a n))
Sorted-row r a zero = tt
Sorted-row r a (suc n) = (
  Each-mapped (Before (r, a)) (λ c. (r, c)) (range_with_len (a + 1) n) (Each-weaker (λ c. (a + 1 ≤ c) × (c < a + 1 + n)) (λ c. Before (r, a) (r, c)) (λ c h. next r a c (omega arith)) (range_with_len (a + 1) n) (range-inside (a + 1) n)),
  Sorted-row r (a + 1) n,
)
  where
    next : (r a c : ℕ) → a < c → (ltb r r || (eqb r r && ltb a c)) ≡ true
    next r a c h = grind (arith, nat_tests)

grid-sorted : (s a n : ℕ) → Sorted Before (pairs_by (λ r. below s) a n)
grid-sorted s a zero = tt
grid-sorted s a (suc n) =
    Sorted-append (map (λ c. (a, c)) (below s)) (pairs_by (λ r. below s) (a + 1) n) (Sorted-row a 0 s) (grid-sorted s (a + 1) n)
    (Each-mapped (λ x. Each (Before x) (pairs_by (λ r. below s) (a + 1) n)) (λ c. (a, c)) (below s)
    (Each-always (λ c. Each (Before (a, c)) (pairs_by (λ r. below s) (a + 1) n))
    (λ c. Each-weaker (λ x. a + 1 ≤ x.0) (Before (a, c)) (λ x h. later a c x.0 x.1 (omega arith)) (pairs_by (λ r. below s) (a + 1) n) (parents-from (λ r. below s) (a + 1) n))
    (below s)))
  where
    later : (a c r d : ℕ) → a < r → (ltb a r || (eqb a r && ltb c d)) ≡ true
    later a c r d h = grind (arith, nat_tests)

Sorted-filter : (p : ℕ × ℕ → Bool) (xs : List (ℕ × ℕ)) → Sorted Before xs → Sorted Before (filter p xs)
Sorted-filter p [] up = tt
Sorted-filter p (x ∷ xs) up = by_case (p x) (Sorted-filter p xs up.1)
  where
    by_case : (b : Bool) → Sorted Before (filter p xs) → Sorted Before (cond b (x ∷ filter p xs) (filter p xs))
    by_case true r = (Each-filter (Before x) p xs up.0, r)
    by_case false r = r

-- ---- what a filter of the grid has

has-append : (xs ys : List (ℕ × ℕ)) (z : ℕ × ℕ) → has (xs ++ ys) z ≡ (has xs z || has ys z)
has-append [] ys z = refl
has-append (x ∷ xs) ys z = ap (λ b. same_pair x z || b) (has-append xs ys z) ∙ or-assoc (same_pair x z) (has xs z) (has ys z)

has-filter : (p : ℕ × ℕ → Bool) (xs : List (ℕ × ℕ)) (z : ℕ × ℕ) → has (filter p xs) z ≡ (p z && has xs z)
has-filter p [] z = sym (and-false (p z))
  where
    and-false : (b : Bool) → (b && false) ≡ false
    and-false true = refl
    and-false false = refl
has-filter p (x ∷ xs) z = by_case (p x) (same_pair x z) refl refl (has-filter p xs z)
  where
    and-or : (b c : Bool) → (b && (false || c)) ≡ (b && c)
    and-or b c = refl

    by_case : (b d : Bool) → p x ≡ b → same_pair x z ≡ d → has (filter p xs) z ≡ (p z && has xs z) → has (cond b (x ∷ filter p xs) (filter p xs)) z ≡ (p z && (same_pair x z || has xs z))
    by_case true true e f r = let s = same_pair-true x z f in let q : p z ≡ true = subst (λ (u : ℕ × ℕ). p u ≡ true) s e in rw (f, q) refl
    by_case true false e f r = rw f r
    by_case false true e f r = let s = same_pair-true x z f in let q : p z ≡ false = subst (λ (u : ℕ × ℕ). p u ≡ false) s e in rw q (rw q at r)
    by_case false false e f r = rw f r

near : (b c : ℕ) → eqb b c ≡ false → b ≤ c → b + 1 ≤ c
near b c e h = grind (arith, nat_tests)

row-has : (a c : ℕ) (b m : ℕ) → (b ≤ c) → c < b + m → has (map (λ c. (a, c)) (range_with_len b m)) (a, c) ≡ true
row-has a c b zero h k = absurd (omega arith)
row-has a c b (suc m) h k = by_case (eqb b c) refl (λ l. row-has a c (b + 1) m l (omega arith))
  where
    by_case : (d : Bool) → eqb b c ≡ d → (b + 1 ≤ c → has (map (λ c. (a, c)) (range_with_len (b + 1) m)) (a, c) ≡ true)
        → ((eqb a a && eqb b c) || has (map (λ c. (a, c)) (range_with_len (b + 1) m)) (a, c)) ≡ true
    by_case true e r = rw (eqb-same a, e) refl
    by_case false e r = rw (eqb-same a, e) (r (near b c e h))

or-true-left : (a b : Bool) → a ≡ true → (a || b) ≡ true
or-true-left a b h = rw h refl

or-true-right : (a b : Bool) → b ≡ true → (a || b) ≡ true
or-true-right true b h = refl
or-true-right false b h = h

grid-has : (s a n r c : ℕ) → a ≤ r → r < a + n → c < s → has (pairs_by (λ r. below s) a n) (r, c) ≡ true
grid-has s a zero r c h k l = absurd (omega arith)
grid-has s a (suc n) r c h k l = by_case (eqb a r) refl (λ m. grid-has s (a + 1) n r c m (omega arith) l)
  where
    by_case : (d : Bool) → eqb a r ≡ d → (a + 1 ≤ r → has (pairs_by (λ r. below s) (a + 1) n) (r, c) ≡ true) → has (map (λ c. (a, c)) (below s) ++ pairs_by (λ r. below s) (a + 1) n) (r, c) ≡ true
    by_case true e i =
        let s' = eqb-true a r e in
        has-append (map (λ c. (a, c)) (below s)) (pairs_by (λ r. below s) (a + 1) n) (r, c)
        ∙ or-true-left (has (map (λ c. (a, c)) (below s)) (r, c)) (has (pairs_by (λ r. below s) (a + 1) n) (r, c))
        (subst (λ (u : ℕ). has (map (λ c. (a, c)) (below s)) (u, c) ≡ true) s' (row-has a c 0 s (omega arith) (omega arith)))
    by_case false e i =
        has-append (map (λ c. (a, c)) (below s)) (pairs_by (λ r. below s) (a + 1) n) (r, c)
        ∙ or-true-right (has (map (λ c. (a, c)) (below s)) (r, c)) (has (pairs_by (λ r. below s) (a + 1) n) (r, c)) (i (near a r e h))

has-inside : (n s : ℕ) (xs : List (ℕ × ℕ)) → Each (λ x. (x.0 < n) × (x.1 < s)) xs → (z : ℕ × ℕ) → has xs z ≡ true → (z.0 < n) × (z.1 < s)
has-inside n s [] h z f = cc
has-inside n s (x ∷ xs) h z f = by_case (same_pair x z) refl (has-inside n s xs h.1 z)
  where
    by_case : (b : Bool) → same_pair x z ≡ b → (has xs z ≡ true → (z.0 < n) × (z.1 < s)) → (z.0 < n) × (z.1 < s)
    by_case true e r = subst (λ (u : ℕ × ℕ). (u.0 < n) × (u.1 < s)) (same_pair-true x z e) h.0
    by_case false e r = let g : (same_pair x z || has xs z) ≡ true = f in r (rw e at g)

-- the pairs that rows have are those of each parent
pub pairs-by-parents : (n s : ℕ) (xs : List (ℕ × ℕ)) → Sorted NotAfter xs → Each (λ x. (x.0 < n) × (x.1 < s)) xs
    → with_pairs [] xs ≡ pairs_by (λ r. filter (λ c. has xs (r, c)) (below s)) 0 n
pairs-by-parents n s xs up inside =
    same-pairs (with_pairs [] xs) (filter (has xs) (pairs_by (λ r. below s) 0 n))
    (Sorted-with_pairs xs [] tt up tt) (Sorted-filter (has xs) (pairs_by (λ r. below s) 0 n) (grid-sorted s 0 n))
    (λ z. has-with_pairs xs [] z ∙ sym (has-filter (has xs) (pairs_by (λ r. below s) 0 n) z ∙ all z (has xs z) refl))
    ∙ filter-flat_map (has xs) (λ r. map (λ c. (r, c)) (below s)) (below n)
    ∙ flat_map-ext-each (λ (r : ℕ). Unit {0}) (λ r. filter (has xs) (map (λ c. (r, c)) (below s))) (λ r. map (λ c. (r, c)) (filter (λ c. has xs (r, c)) (below s)))
    (λ r _. filter-map (has xs) (λ c. (r, c)) (below s)) (below n) (Each-always (λ (r : ℕ). Unit {0}) (λ r. tt) (below n))
  where
    all : (z : ℕ × ℕ) (b : Bool) → has xs z ≡ b → (has xs z && has (pairs_by (λ r. below s) 0 n) z) ≡ has xs z
    all z true e = let i = has-inside n s xs inside z e in rw e (grid-has s 0 n z.0 z.1 (omega arith) (omega arith) i.1)
    all z false e = rw e refl
