-- What the arrays of a level hold, from the coordinates of each parent.
use Rattle.std.proofs.Common.{◌≡◌, ℕ, zero, suc, ◌+◌, ◌-◌, ◌*◌, ◌<◌, ◌≤◌, true, false, List, [], ◌∷◌, ◌++◌, length, ltb, refl, ap, sym, ◌∙◌, arith, append_assoc, length-append, zero-add}
use Rattle.std.specs.Prelude.{slice_index}
use Rattle.std.specs.List.{filter, range_with_len}
use mathlib.Core.List.{map}
use Rattle.std.proofs.lemmas.Bool.Decides.{nat_tests}
use Rattle.std.proofs.lemmas.List.{length_push, map-append, append-nil}
use Rattle.std.proofs.lemmas.List.FromFn.{length-range_with_len, length-map-range_with_len, get_or-map-range_with_len}
use Rattle.std.proofs.lemmas.List.Elements.{filter-append}
use Rattle.sam_model.specs.Lists.{below}
use Rattle.levels.specs.Arrays.{dense_children, fiber, fibers}
use Rattle.sam_base.specs.Each.{Each}
use Rattle.sam_model.proofs.Lists.{map-ext-each, Each-append, Each-mapped, Each-always, Each-weaker, filter-none-each, filter-all-each}
use Rattle.levels.specs.Pairs.{before}
use Rattle.levels.proofs.Ascending.{number, number_all}
use Rattle.levels.proofs.PairLemmas.{pairs_by, below-inside, parents-from}

-- ---- dense

number-range : (x a m : ℕ) → number (x + a) (range_with_len a m) ≡ map (λ c. (c, x + c)) (range_with_len a m)
number-range x a zero = refl
number-range x a (suc m) =
    let e : x + a + 1 ≡ x + (a + 1) = omega arith in
    ap (λ n. (a, x + a) ∷ number n (range_with_len (a + 1) m)) e ∙ ap (λ t. (a, x + a) ∷ t) (number-range x (a + 1) m)

dense-from : (size a n : ℕ) → number_all (a * size) (map (λ r. below size) (range_with_len a n)) ≡ map (λ r. map (λ c. (c, r * size + c)) (below size)) (range_with_len a n)
dense-from size a zero = refl
dense-from size a (suc n) =
    let e : a * size + 0 ≡ a * size = omega arith in
    let here : number (a * size) (below size) ≡ map (λ c. (c, a * size + c)) (below size) = ap (λ i. number i (below size)) (sym e) ∙ number-range (a * size) 0 size in
    let f : a * size + length (below size) ≡ (a + 1) * size = next (length (below size)) (length-range_with_len 0 size) in
    let there : number_all (a * size + length (below size)) (map (λ r. below size) (range_with_len (a + 1) n)) ≡ map (λ r. map (λ c. (c, r * size + c)) (below size)) (range_with_len (a + 1) n)
    = ap (λ i. number_all i (map (λ r. below size) (range_with_len (a + 1) n))) f ∙ dense-from size (a + 1) n in
    cc (here, there)
  where
    next : (l : ℕ) → l ≡ size → a * size + l ≡ (a + 1) * size
    next l h = rw h (grind arith)

pub dense-numbered : (size parents : ℕ) → dense_children size parents ≡ number_all 0 (map (λ r. below size) (below parents))
dense-numbered size parents =
    let e : 0 * size ≡ 0 = grind arith in
    sym (ap (λ i. number_all i (map (λ r. below size) (below parents))) (sym e) ∙ dense-from size 0 parents)

-- ---- compressed

fiber-at : (xs ys zs : List ℕ) (n : ℕ) → length xs ≡ n → fiber (xs ++ (ys ++ zs)) n (length ys) ≡ number n ys
fiber-at xs [] zs n e = refl
fiber-at xs (y ∷ ys) zs n e =
    let at : slice_index (xs ++ (y ∷ ys ++ zs)) n ≡ y = here xs y (ys ++ zs) n e in
    let shift : xs ++ (y ∷ ys ++ zs) ≡ (xs ++ y ∷ []) ++ (ys ++ zs) = sym (append_assoc xs (y ∷ []) (ys ++ zs)) in
    let long : length (xs ++ y ∷ []) ≡ n + 1 = omega (arith, length_push xs y) in
    let rest : fiber (xs ++ (y ∷ ys ++ zs)) (n + 1) (length ys) ≡ number (n + 1) ys = ap (λ t. fiber t (n + 1) (length ys)) shift ∙ fiber-at (xs ++ y ∷ []) ys zs (n + 1) long in
    cc (at, rest)
  where
    here : (xs : List ℕ) (y : ℕ) (zs : List ℕ) (n : ℕ) → length xs ≡ n → slice_index (xs ++ y ∷ zs) n ≡ y
    here [] y zs zero e = refl
    here [] y zs (suc n) e = absurd (omega arith)
    here (x ∷ xs) y zs zero e = absurd (omega arith)
    here (x ∷ xs) y zs (suc n) e = here xs y zs n (omega arith)

seconds-row : (r : ℕ) (cs : List ℕ) → map (λ (x : ℕ × ℕ). x.1) (map (λ c. (r, c)) cs) ≡ cs
seconds-row r [] = refl
seconds-row r (c ∷ cs) = ap (λ t. c ∷ t) (seconds-row r cs)

length-row : (r : ℕ) (cs : List ℕ) → length {A = ℕ × ℕ} (map (λ c. (r, c)) cs) ≡ length cs
length-row r [] = refl
length-row r (c ∷ cs) = ap suc (length-row r cs)

length-seconds : (xs : List (ℕ × ℕ)) → length (map (λ (x : ℕ × ℕ). x.1) xs) ≡ length xs
length-seconds [] = refl
length-seconds (x ∷ xs) = ap suc (length-seconds xs)

yes : (m n : ℕ) → m < n → ltb m n ≡ true
yes m n h = grind (arith, nat_tests)

not-yet : (m n : ℕ) → n ≤ m → ltb m n ≡ false
not-yet m n h = grind (arith, nat_tests)

-- the pairs of smaller parents stand before
pub before-split : (xs ys : List (ℕ × ℕ)) (r : ℕ) → Each (λ x. x.0 < r) xs → Each (λ x. r ≤ x.0) ys → before (xs ++ ys) r ≡ length xs
before-split xs ys r h k =
    let front = filter-all-each (λ x. ltb x.0 r) xs (Each-weaker (λ x. x.0 < r) (λ x. ltb x.0 r ≡ true) (λ x l. yes x.0 r l) xs h) in
    let back = filter-none-each (λ x. ltb x.0 r) ys (Each-weaker (λ x. r ≤ x.0) (λ x. ltb x.0 r ≡ false) (λ x l. not-yet x.0 r l) ys k) in
    ap length (filter-append (λ x. ltb x.0 r) xs ys ∙ join front back)
  where
    join : filter (λ x. ltb x.0 r) xs ≡ xs → filter (λ x. ltb x.0 r) ys ≡ [] → filter (λ x. ltb x.0 r) xs ++ filter (λ x. ltb x.0 r) ys ≡ xs
    join f b = ap (λ t. t ++ filter (λ x. ltb x.0 r) ys) f ∙ ap (λ t. xs ++ t) b ∙ append-nil xs

-- the fiber of each of n parents from a on
abbrev pub fibers_from : List (ℕ × ℕ) → ℕ → ℕ → List (List (ℕ × ℕ))
fibers_from pairs a n = map (λ r. fiber (map (λ (x : ℕ × ℕ). x.1) pairs) (before pairs r) (before pairs (r + 1) - before pairs r)) (range_with_len a n)

fibers-numbered : (K : ℕ → List ℕ) (n a : ℕ) (done pairs : List (ℕ × ℕ)) (i : ℕ) → length done ≡ i → pairs ≡ done ++ pairs_by K a n → Each (λ x. x.0 < a) done
    → fibers_from pairs a n ≡ number_all i (map K (range_with_len a n))
fibers-numbered K zero a done pairs i e h small = refl
fibers-numbered K (suc n) a done pairs i e h small =
    let shift : pairs ≡ (done ++ map (λ c. (a, c)) (K a)) ++ pairs_by K (a + 1) n = h ∙ sym (append_assoc done (map (λ c. (a, c)) (K a)) (pairs_by K (a + 1) n)) in
    let first : before pairs a ≡ i = ap (λ t. before t a) h ∙ before-split done (pairs_by K a (suc n)) a small (parents-from K a (suc n)) ∙ e in
    let small' : Each (λ x. x.0 < a + 1) (done ++ map (λ c. (a, c)) (K a))
    = Each-append (λ x. x.0 < a + 1) done (map (λ c. (a, c)) (K a)) (Each-weaker (λ x. x.0 < a) (λ x. x.0 < a + 1) (λ x l. omega arith) done small)
    (Each-mapped (λ x. x.0 < a + 1) (λ c. (a, c)) (K a) (Each-always (λ (c : ℕ). a < a + 1) (λ c. omega arith) (K a))) in
    let long : length (done ++ map (λ c. (a, c)) (K a)) ≡ i + length (K a) = length-append done (map (λ c. (a, c)) (K a)) ∙ two e (length-row a (K a)) in
    let next : before pairs (a + 1) ≡ i + length (K a)
    = ap (λ t. before t (a + 1)) shift ∙ before-split (done ++ map (λ c. (a, c)) (K a)) (pairs_by K (a + 1) n) (a + 1) small' (parents-from K (a + 1) n) ∙ long in
    let width : before pairs (a + 1) - before pairs a ≡ length (K a) = omega arith in
    let crds : map (λ (x : ℕ × ℕ). x.1) pairs ≡ map (λ (x : ℕ × ℕ). x.1) done ++ (K a ++ map (λ (x : ℕ × ℕ). x.1) (pairs_by K (a + 1) n))
    = ap (map (λ (x : ℕ × ℕ). x.1)) h ∙ map-append (λ (x : ℕ × ℕ). x.1) done (map (λ c. (a, c)) (K a) ++ pairs_by K (a + 1) n)
    ∙ ap (λ t. map (λ (x : ℕ × ℕ). x.1) done ++ t) (map-append (λ (x : ℕ × ℕ). x.1) (map (λ c. (a, c)) (K a)) (pairs_by K (a + 1) n) ∙ ap (λ t. t ++ map (λ (x : ℕ × ℕ). x.1) (pairs_by K (a + 1) n)) (seconds-row a (K a))) in
    let here : fiber (map (λ (x : ℕ × ℕ). x.1) pairs) (before pairs a) (before pairs (a + 1) - before pairs a) ≡ number i (K a)
    = ap (λ m. fiber (map (λ (x : ℕ × ℕ). x.1) pairs) m (before pairs (a + 1) - before pairs a)) first ∙ ap (λ w. fiber (map (λ (x : ℕ × ℕ). x.1) pairs) i w) width
    ∙ ap (λ t. fiber t i (length (K a))) crds ∙ fiber-at (map (λ (x : ℕ × ℕ). x.1) done) (K a) (map (λ (x : ℕ × ℕ). x.1) (pairs_by K (a + 1) n)) i (length-seconds done ∙ e) in
    let there = fibers-numbered K n (a + 1) (done ++ map (λ c. (a, c)) (K a)) pairs (i + length (K a)) long shift small' in
    cc (here, there)
  where
    two : {a b c d : ℕ} → a ≡ b → c ≡ d → a + c ≡ b + d
    two ab cd = cc

-- segments and coordinates that are made of pairs hold the coordinates of each parent
pub compressed-numbered : (K : ℕ → List ℕ) (n : ℕ) (pairs : List (ℕ × ℕ)) → pairs ≡ pairs_by K 0 n
    → fibers (map (before pairs) (below (n + 1))) (map (λ (x : ℕ × ℕ). x.1) pairs) ≡ number_all 0 (map K (below n))
compressed-numbered K n pairs h =
    let long : length (map (before pairs) (below (n + 1))) - 1 ≡ n = omega (arith, length-map-range_with_len (before pairs) 0 (n + 1)) in
    ap (λ m. map (λ r. fiber (map (λ (x : ℕ × ℕ). x.1) pairs) (slice_index (map (before pairs) (below (n + 1))) r) (slice_index (map (before pairs) (below (n + 1))) (r + 1) - slice_index (map (before pairs) (below (n + 1))) r)) (below m)) long
    ∙ map-ext-each (λ r. r < n)
    (λ r. fiber (map (λ (x : ℕ × ℕ). x.1) pairs) (slice_index (map (before pairs) (below (n + 1))) r) (slice_index (map (before pairs) (below (n + 1))) (r + 1) - slice_index (map (before pairs) (below (n + 1))) r))
    (λ r. fiber (map (λ (x : ℕ × ℕ). x.1) pairs) (before pairs r) (before pairs (r + 1) - before pairs r))
    (λ r l.
    let a = get_or-map-range_with_len (before pairs) 0 (n + 1) r r 0 (omega arith) (zero-add r) in
    let b = get_or-map-range_with_len (before pairs) 0 (n + 1) (r + 1) (r + 1) 0 (omega arith) (zero-add (r + 1)) in
    ap (λ m. fiber (map (λ (x : ℕ × ℕ). x.1) pairs) m (slice_index (map (before pairs) (below (n + 1))) (r + 1) - m)) a
    ∙ ap (λ m. fiber (map (λ (x : ℕ × ℕ). x.1) pairs) (before pairs r) (m - before pairs r)) b)
    (below n) (below-inside n)
    ∙ fibers-numbered K n 0 [] pairs 0 refl h tt
