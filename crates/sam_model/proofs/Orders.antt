-- Lists of variables and modes: equal ones, members, orders and ascending ones.
use Rattle.std.specs.Prelude.{◌≡◌, ◌⊎◌, ◌<◌, ◌≤◌, ℕ, zero, suc, ◌+◌, Bool, true, false, cond, not, ◌&&◌, ◌||◌, ◌==◌, List, [], ◌∷◌, length, slice_index, nat_lt, eqb, refl}
use Rattle.std.specs.Cmp.{IsEquivalence}
use Rattle.std.specs.List.{filter, list_any, list_all, range_with_len, IsDistinct, AllByRecursion}
use mathlib.Core.List.{map}
use Rattle.std.proofs.Common.{arith, sym, ◌∙◌, ap, inl, inr}
use Rattle.std.proofs.lemmas.Bool.{and_parts, cases_eq, ne_eqb, or_parts, or_cases, not-true, ltb-true, eqb-true, eq-eqb}
use Rattle.std.proofs.lemmas.Bool.Decides.{nat_tests}
use Rattle.std.proofs.lemmas.List.{get_or-map}
use Rattle.std.proofs.lemmas.Map.Made.{is_member-filter}
use Rattle.std.proofs.lemmas.Map.Steps.{length-le_from_distinct_below}
use Rattle.sam_base.specs.Each.{Each}
use Rattle.sam_model.specs.Lists.{below, items_at, is_in, same_list, coordinate}
use Rattle.sam_model.specs.Accepted.{distinct, is_order, ascending, ascending_from}
use Rattle.sam_model.proofs.Lists.{same-test, map-ext-each, filter-ext-each, list_any-map, list_any-mono}

-- ---- lists that are equal

pub same_list-self : (p : List ℕ) → same_list p p ≡ true
same_list-self [] = refl
same_list-self (x ∷ p) = rw (eq-eqb x x refl) (same_list-self p)

pub same_list-true : (p q : List ℕ) → same_list p q ≡ true → p ≡ q
same_list-true [] [] h = refl
same_list-true [] (y ∷ q) h = cc
same_list-true (x ∷ p) [] h = cc
same_list-true (x ∷ p) (y ∷ q) h =
    let e = and_parts (eqb x y) (same_list p q) h in
    let same : x ≡ y = eqb-true x y e.0 in
    let rest : p ≡ q = same_list-true p q e.1 in
    cc (same, rest)

-- ---- members

pub number_equality : IsEquivalence eqb
number_equality = record { refl = same; symm = turned; congr = moved }
  where
    same : (x : ℕ) → eqb x x ≡ true
    same x = grind (arith, nat_tests)

    turned : (x y : ℕ) → eqb x y ≡ eqb y x
    turned x y = grind (arith, nat_tests)

    moved : (x y z : ℕ) → eqb x y ≡ true → eqb x z ≡ eqb y z
    moved x y z h = ap (λ (w : ℕ). eqb w z) (eqb-true x y h)

-- a test that all pass is passed by each
pub list_all-member : (test : ℕ → Bool) (xs : List ℕ) (v : ℕ) → list_all test xs ≡ true → is_in v xs ≡ true → test v ≡ true
list_all-member test [] v h k = absurd (cc)
list_all-member test (x ∷ xs) v h k = by_case (or_cases (eqb v x) (is_in v xs) k) (list_all-member test xs v (and_parts (test x) (list_all test xs) h).1)
  where
    by_case : (eqb v x ≡ true) ⊎ (is_in v xs ≡ true) → (is_in v xs ≡ true → test v ≡ true) → test v ≡ true
    by_case (inl e) r = ap test (eqb-true v x e) ∙ (and_parts (test x) (list_all test xs) h).0
    by_case (inr e) r = r e

-- what is among those that pass
pub is_in-filter : (test : ℕ → Bool) (q : ℕ) (xs : List ℕ) → is_in q (filter test xs) ≡ (is_in q xs && test q)
is_in-filter test q xs = is_member-filter number_equality test q (λ x e. ap test (eqb-true q x e)) xs

pub is_in-range : (n a q : ℕ) → a ≤ q → q < a + n → is_in q (range_with_len a n) ≡ true
is_in-range zero a q low high = absurd (omega (arith, low, high))
is_in-range (suc n) a q low high = by_case (cases_eq q a) (λ ne. is_in-range n (a + 1) q (omega (arith, low, ne)) (omega (arith, high)))
  where
    by_case : (q ≡ a) ⊎ (q ≡ a → ⊥) → ((q ≡ a → ⊥) → is_in q (range_with_len (a + 1) n) ≡ true)
        → is_in q (range_with_len a (suc n)) ≡ true
    by_case (inl e) later = rw (eq-eqb q a e) refl
    by_case (inr ne) later = rw (ne_eqb q a ne) (later ne)

-- those below n that pass a test are just those that pass it
pub is_in-tested : (test : ℕ → Bool) (n g : ℕ) → g < n → is_in g (filter test (below n)) ≡ test g
is_in-tested test n g l = is_in-filter test g (below n) ∙ ap (λ b. b && test g) (is_in-range n 0 g (omega arith) (omega (arith, l)))

-- ---- an order has every mode

apart : (i : ℕ) (xs : List ℕ) → is_in i xs ≡ false → AllByRecursion (λ y. eqb i y ≡ false) xs
apart i [] h = tt
apart i (x ∷ xs) h = let e = or_parts (eqb i x) (is_in i xs) h in (e.0, apart i xs e.1)

all_apart : (xs : List ℕ) → distinct xs ≡ true → IsDistinct eqb xs
unfolding IsDistinct
all_apart [] h = tt
all_apart (x ∷ xs) h = let e = and_parts (not (is_in x xs)) (distinct xs) h in (apart x xs (not-true (is_in x xs) e.0), all_apart xs e.1)

pub is_below : (n q : ℕ) (xs : List ℕ) → list_all (λ m. nat_lt m n) xs ≡ true → is_in q xs ≡ true → q < n
is_below n q [] h k = absurd (cc)
is_below n q (x ∷ xs) h k =
    by_case (or_cases (eqb q x) (is_in q xs) k) (λ e. is_below n q xs (and_parts (nat_lt x n) (list_all (λ m. nat_lt m n) xs) h).1 e)
  where
    by_case : (eqb q x ≡ true) ⊎ (is_in q xs ≡ true) → (is_in q xs ≡ true → q < n) → q < n
    by_case (inl e) r =
        let same : q ≡ x = eqb-true q x e in
        let less : x < n = ltb-true x n (and_parts (nat_lt x n) (list_all (λ m. nat_lt m n) xs) h).0 in
        omega (arith, same, less)
    by_case (inr e) r = r e

one_more : (i : ℕ) (xs : List ℕ) → is_in i xs ≡ false → distinct xs ≡ true → IsDistinct eqb (i ∷ xs)
unfolding IsDistinct
one_more i xs h k = (apart i xs h, all_apart xs k)

record Modes (n : ℕ) (order : List ℕ) : Type 0 where
  count : length order ≡ n
  in_range : list_all (λ m. nat_lt m n) order ≡ true
  once : distinct order ≡ true

modes : (n : ℕ) (order : List ℕ) → is_order n order ≡ true → Modes n order
modes n order h =
    let a = and_parts (length order == n) (list_all (λ m. nat_lt m n) order && distinct order) h in
    let b = and_parts (list_all (λ m. nat_lt m n) order) (distinct order) a.1 in
    record { count = eqb-true (length order) n a.0; in_range = b.0; once = b.1 }

pub order-has : (n : ℕ) (order : List ℕ) (i : ℕ) → is_order n order ≡ true → i < n → is_in i order ≡ true
order-has n order i h k = by_case (is_in i order) refl
  where
    m : Modes n order
    m = modes n order h

    all_below : (q : ℕ) → (eqb q i || is_in q order) ≡ true → q < n
    all_below q e = split (or_cases (eqb q i) (is_in q order) e)
      where
        split : (eqb q i ≡ true) ⊎ (is_in q order ≡ true) → q < n
        split (inl e) = let same : q ≡ i = eqb-true q i e in omega (arith, same, k)
        split (inr e) = is_below n q order m.in_range e

    by_case : (b : Bool) → is_in i order ≡ b → b ≡ true
    by_case true e = refl
    by_case false e =
        let most : length (i ∷ order) ≤ n = length-le_from_distinct_below (i ∷ order) n (one_more i order e m.once) all_below in
        absurd (omega (arith, most, m.count))

-- ---- variables in storage order

stands_at : (v : ℕ) (vars : List ℕ) → is_in v vars ≡ true → (i : ℕ) × (i < length vars) × (slice_index vars i ≡ v)
stands_at v [] h = absurd (cc)
stands_at v (x ∷ vars) h = by_case (or_cases (eqb v x) (is_in v vars) h) (stands_at v vars)
  where
    by_case : (eqb v x ≡ true) ⊎ (is_in v vars ≡ true) → (is_in v vars ≡ true → (i : ℕ) × (i < length vars) × (slice_index vars i ≡ v))
        → (i : ℕ) × (i < length (x ∷ vars)) × (slice_index (x ∷ vars) i ≡ v)
    by_case (inl e) r = (0, omega arith, sym (eqb-true v x e))
    by_case (inr e) r = let at = r e in (suc at.0, omega (arith, at.1), at.2)

stands_in : (v : ℕ) (vars : List ℕ) (i : ℕ) → i < length vars → eqb v (slice_index vars i) ≡ true → is_in v vars ≡ true
stands_in v [] i h e = absurd (omega (arith, h))
stands_in v (x ∷ vars) zero h e = ap (λ b. b || is_in v vars) e
stands_in v (x ∷ vars) (suc i) h e = more (eqb v x) (stands_in v vars i (omega (arith, h)) e)
  where
    more : (b : Bool) → is_in v vars ≡ true → (b || is_in v vars) ≡ true
    more true h = refl
    more false h = h

among : (v : ℕ) (vars ms : List ℕ) → list_all (λ m. nat_lt m (length vars)) ms ≡ true → list_any (λ m. eqb v (slice_index vars m)) ms ≡ true → is_in v vars ≡ true
among v vars [] h k = absurd (cc)
among v vars (m ∷ ms) h k =
    by_case (or_cases (eqb v (slice_index vars m)) (list_any (λ m. eqb v (slice_index vars m)) ms) k)
    (among v vars ms (and_parts (nat_lt m (length vars)) (list_all (λ m. nat_lt m (length vars)) ms) h).1)
  where
    by_case : (eqb v (slice_index vars m) ≡ true) ⊎ (list_any (λ m. eqb v (slice_index vars m)) ms ≡ true)
        → (list_any (λ m. eqb v (slice_index vars m)) ms ≡ true → is_in v vars ≡ true) → is_in v vars ≡ true
    by_case (inl e) r = stands_in v vars m (ltb-true m (length vars) (and_parts (nat_lt m (length vars)) (list_all (λ m. nat_lt m (length vars)) ms) h).0) e
    by_case (inr e) r = r e

-- storage order has the same variables
pub is_in-items : (vars order : List ℕ) (v : ℕ) → is_order (length vars) order ≡ true → is_in v (items_at vars order) ≡ is_in v vars
is_in-items vars order v h = same-test (is_in v (items_at vars order)) (is_in v vars) forth back
  where
    forth : is_in v (items_at vars order) ≡ true → is_in v vars ≡ true
    forth e = among v vars order (modes (length vars) order h).in_range (sym (list_any-map (eqb v) (slice_index vars) order) ∙ e)

    back : is_in v vars ≡ true → is_in v (items_at vars order) ≡ true
    back e =
        let at = stands_at v vars e in
        list_any-map (eqb v) (slice_index vars) order
        ∙ list_any-mono (eqb at.0) (λ m. eqb v (slice_index vars m))
        (λ m k. eq-eqb v (slice_index vars m) (sym at.2 ∙ ap (slice_index vars) (eqb-true at.0 m k))) order (order-has (length vars) order at.0 h at.1)

-- items of a mapped list
pub items_at-map : (f : ℕ → ℕ) (xs places : List ℕ) → list_all (λ m. nat_lt m (length xs)) places ≡ true → items_at (map f xs) places ≡ map f (items_at xs places)
items_at-map f xs [] h = refl
items_at-map f xs (m ∷ places) h =
    let e = and_parts (nat_lt m (length xs)) (list_all (λ m. nat_lt m (length xs)) places) h in
    let here : slice_index (map f xs) m ≡ f (slice_index xs m) = get_or-map f xs m 0 0 (ltb-true m (length xs) e.0) in
    rw (here, items_at-map f xs places e.1) refl

pub order-in-range : (n : ℕ) (order : List ℕ) → is_order n order ≡ true → list_all (λ m. nat_lt m n) order ≡ true
order-in-range n order h = (modes n order h).in_range

-- ---- ascending lists

-- each number is above the one before it, and the first is a or more
abbrev pub Rises : ℕ → List ℕ → Type 0
Rises a [] = Unit {0}
Rises a (x ∷ xs) = (a ≤ x) × Rises (suc x) xs

rises_from : (x : ℕ) (xs : List ℕ) → ascending_from x xs ≡ true → Rises (suc x) xs
rises_from x [] h = tt
rises_from x (y ∷ xs) h =
    let e = and_parts (nat_lt x y) (ascending_from y xs) h in
    let less : x < y = ltb-true x y e.0 in
    (omega (arith, less), rises_from y xs e.1)

pub rises : (xs : List ℕ) → ascending xs ≡ true → Rises 0 xs
rises [] h = tt
rises (x ∷ xs) h = (omega arith, rises_from x xs h)

pub Rises-weaker : (a b : ℕ) (xs : List ℕ) → b ≤ a → Rises a xs → Rises b xs
Rises-weaker a b [] h r = tt
Rises-weaker a b (x ∷ xs) h r = (omega (arith, h, r.0), r.1)

pub Rises-above : (a : ℕ) (xs : List ℕ) → Rises (suc a) xs → Each (λ x. a < x) xs
Rises-above a [] r = tt
Rises-above a (x ∷ xs) r = (omega (arith, r.0), Rises-above a xs (Rises-weaker (suc x) (suc a) xs (omega (arith, r.0)) r.1))

-- what passes a test over a range rises
pub Rises-range : (test : ℕ → Bool) (a n : ℕ) → Rises a (filter test (range_with_len a n))
Rises-range test a zero = tt
Rises-range test a (suc n) = by_case (test a) (Rises-range test (a + 1) n)
  where
    by_case : (b : Bool) → Rises (a + 1) (filter test (range_with_len (a + 1) n))
        → Rises a (cond b (a ∷ filter test (range_with_len (a + 1) n)) (filter test (range_with_len (a + 1) n)))
    by_case true r = (omega arith, Rises-weaker (a + 1) (suc a) (filter test (range_with_len (a + 1) n)) (omega arith) r)
    by_case false r = Rises-weaker (a + 1) a (filter test (range_with_len (a + 1) n)) (omega arith) r

-- a number below the first isn't among them
pub not-above : (v a : ℕ) (xs : List ℕ) → v < a → Rises a xs → is_in v xs ≡ false
not-above v a [] h r = refl
not-above v a (x ∷ xs) h r =
    let e : eqb v x ≡ false = apart_from v x (omega (arith, h, r.0)) in
    rw e (not-above v (suc x) xs (omega (arith, h, r.0)) r.1)
  where
    apart_from : (v x : ℕ) → v < x → eqb v x ≡ false
    apart_from v x h = grind (arith, nat_tests)

pub rises-distinct : (a : ℕ) (xs : List ℕ) → Rises a xs → IsDistinct eqb xs
unfolding IsDistinct
rises-distinct a [] r = tt
rises-distinct a (x ∷ xs) r = (apart x xs (not-above x (suc x) xs (omega arith) r.1), rises-distinct (suc x) xs r.1)

no_members : (xs : List ℕ) → filter (λ v. is_in v []) xs ≡ []
no_members [] = refl
no_members (x ∷ xs) = no_members xs

filter_above : (test : ℕ → Bool) (a n : ℕ) → Each (λ v. a < v) (filter test (range_with_len (a + 1) n))
filter_above test a n =
    Rises-above a (filter test (range_with_len (a + 1) n)) (Rises-weaker (a + 1) (suc a) (filter test (range_with_len (a + 1) n)) (omega arith) (Rises-range test (a + 1) n))

-- rising numbers that pass the test are what is left of a range, where only these are kept
pub filter-members : (test : ℕ → Bool) (a n m : ℕ) (ws : List ℕ) → a + n ≡ m → Rises a ws → Each (λ w. (test w ≡ true) × (w < m)) ws
    → filter (λ v. is_in v ws) (filter test (range_with_len a n)) ≡ ws
filter-members test a n m [] e r h = no_members (filter test (range_with_len a n))
filter-members test a zero m (w ∷ ws) e r h = absurd (omega (arith, e, r.0, h.0.1))
filter-members test a (suc n) m (w ∷ ws) e r h =
    by_case (eqb a w) refl
    (filter-members test (a + 1) n m ws (omega (arith, e)))
    (filter-members test (a + 1) n m (w ∷ ws) (omega (arith, e)))
  where
    rest : List ℕ
    rest = filter test (range_with_len (a + 1) n)

    here : (b : Bool) → b ≡ true → a ≡ w → (Rises (a + 1) ws → Each (λ w. (test w ≡ true) × (w < m)) ws → filter (λ v. is_in v ws) (filter test (range_with_len (a + 1) n)) ≡ ws)
        → filter (λ v. is_in v (w ∷ ws)) (cond b (a ∷ filter test (range_with_len (a + 1) n)) (filter test (range_with_len (a + 1) n))) ≡ w ∷ ws
    here b t same k =
        ap (λ x. filter (λ v. is_in v (w ∷ ws)) (cond x (a ∷ filter test (range_with_len (a + 1) n)) (filter test (range_with_len (a + 1) n)))) t
        ∙ ap (λ x. cond (x || is_in a ws) (a ∷ filter (λ v. is_in v (w ∷ ws)) (filter test (range_with_len (a + 1) n))) (filter (λ v. is_in v (w ∷ ws)) (filter test (range_with_len (a + 1) n)))) (eq-eqb a w same)
        ∙ ap (λ (xs : List ℕ). a ∷ xs)
        (filter-ext-each (λ v. a < v) (λ v. is_in v (w ∷ ws)) (λ v. is_in v ws)
        (λ v l. ap (λ x. x || is_in v ws) (other v w (omega (arith, l, same)))) (filter test (range_with_len (a + 1) n)) (filter_above test a n)
        ∙ k (Rises-weaker (suc w) (a + 1) ws (omega (arith, same)) r.1) h.1)
        ∙ ap (λ (x : ℕ). x ∷ ws) same
      where
        other : (v w : ℕ) → w < v → eqb v w ≡ false
        other v w l = grind (arith, nat_tests)

    there : (b : Bool) → a < w → (Rises (a + 1) (w ∷ ws) → Each (λ w. (test w ≡ true) × (w < m)) (w ∷ ws) → filter (λ v. is_in v (w ∷ ws)) (filter test (range_with_len (a + 1) n)) ≡ w ∷ ws)
        → filter (λ v. is_in v (w ∷ ws)) (cond b (a ∷ filter test (range_with_len (a + 1) n)) (filter test (range_with_len (a + 1) n))) ≡ w ∷ ws
    there true l k =
        ap (λ x. cond x (a ∷ filter (λ v. is_in v (w ∷ ws)) (filter test (range_with_len (a + 1) n))) (filter (λ v. is_in v (w ∷ ws)) (filter test (range_with_len (a + 1) n))))
        (not-above a (suc a) (w ∷ ws) (omega arith) (omega (arith, l), r.1))
        ∙ k (omega (arith, l), r.1) h
    there false l k = k (omega (arith, l), r.1) h

    by_case : (b : Bool) → eqb a w ≡ b
        → (Rises (a + 1) ws → Each (λ w. (test w ≡ true) × (w < m)) ws → filter (λ v. is_in v ws) (filter test (range_with_len (a + 1) n)) ≡ ws)
        → (Rises (a + 1) (w ∷ ws) → Each (λ w. (test w ≡ true) × (w < m)) (w ∷ ws) → filter (λ v. is_in v (w ∷ ws)) (filter test (range_with_len (a + 1) n)) ≡ w ∷ ws)
        → filter (λ v. is_in v (w ∷ ws)) (cond (test a) (a ∷ filter test (range_with_len (a + 1) n)) (filter test (range_with_len (a + 1) n))) ≡ w ∷ ws
    by_case true c k l = let same : a ≡ w = eqb-true a w c in here (test a) (ap test same ∙ h.0.0) same k
    by_case false c k l = there (test a) (above a w c r.0) l
      where
        above : (a w : ℕ) → eqb a w ≡ false → a ≤ w → a < w
        above a w c l = grind (arith, nat_tests)

-- a tuple has the coordinates of its own variables
pub coordinate-map : (a : ℕ) (vs u : List ℕ) → Rises a vs → length u ≡ length vs → map (coordinate vs u) vs ≡ u
coordinate-map a [] [] r h = refl
coordinate-map a [] (c ∷ u) r h = absurd (omega (arith, h))
coordinate-map a (v ∷ vs) [] r h = absurd (omega (arith, h))
coordinate-map a (v ∷ vs) (c ∷ u) r h =
    let here : coordinate (v ∷ vs) (c ∷ u) v ≡ c = ap (λ b. cond b c (coordinate vs u v)) (eq-eqb v v refl) in
    let others : map (coordinate (v ∷ vs) (c ∷ u)) vs ≡ map (coordinate vs u) vs =
    map-ext-each (λ w. v < w) (coordinate (v ∷ vs) (c ∷ u)) (coordinate vs u) (λ w l. ap (λ b. cond b c (coordinate vs u w)) (other w v l)) vs (Rises-above v vs r.1)
    in
    let rest : map (coordinate vs u) vs ≡ u = coordinate-map (suc v) vs u r.1 (omega (arith, h)) in
    cc
  where
    other : (w v : ℕ) → v < w → eqb w v ≡ false
    other w v l = grind (arith, nat_tests)
