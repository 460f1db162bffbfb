-- Segments and coordinates that are made of ascending pairs.
use Rattle.std.proofs.Common.{◌≡◌, ℕ, suc, ◌+◌, ◌<◌, ◌≤◌, Bool, true, false, cond, ◌||◌, ◌&&◌, List, [], ◌∷◌, length, eqb, ltb, refl, ap, sym, ◌∙◌, subst, arith, zero-add}
use Rattle.std.specs.Prelude.{slice_index}
use Rattle.std.specs.List.{filter}
use mathlib.Core.List.{map}
use Rattle.std.proofs.lemmas.Bool.Decides.{nat_tests}
use Rattle.std.proofs.lemmas.List.FromFn.{length-map-range_with_len, get_or-map-range_with_len}
use Rattle.std.proofs.lemmas.List.{length-map}
use Rattle.sam_model.specs.Lists.{below}
use Rattle.sam_base.specs.Each.{Each}
use Rattle.sam_model.proofs.Lists.{Each-weaker}
use Rattle.levels.specs.Sorted.{Sorted}
use Rattle.levels.specs.Pairs.{NotAfter, with_pairs, before}
use Rattle.levels.proofs.PairLemmas.{Before, Each-with_pair, Sorted-with_pairs}

Each-with_pairs : (Q : ℕ × ℕ → Type 0) (xs d : List (ℕ × ℕ)) → Each Q d → Each Q xs → Each Q (with_pairs d xs)
Each-with_pairs Q [] d h k = h
Each-with_pairs Q (x ∷ xs) d h k = Each-with_pairs Q xs (Rattle.levels.specs.Pairs.with_pair d x) (Each-with_pair Q d x h k.0) k.1

-- the parents stay below their number
pub parents-below : (xs pairs ps : List (ℕ × ℕ)) (count : ℕ) → Each (λ x. x.0 < count) xs → pairs ≡ with_pairs [] xs → ps ≡ pairs → Each (λ x. x.0 < count) ps
parents-below xs pairs ps count h e f = subst (Each (λ x. x.0 < count)) (sym (f ∙ e)) (Each-with_pairs (λ x. x.0 < count) xs [] tt h)

parent-order : (a b c d : ℕ) → (ltb a c || (eqb a c && ltb b d)) ≡ true → a ≤ c
parent-order a b c d h = grind (arith, nat_tests)

parents-rise : (xs : List (ℕ × ℕ)) → Sorted Before xs → Sorted (λ x y. x.0 ≤ y.0) xs
parents-rise [] up = tt
parents-rise (x ∷ xs) up = (Each-weaker (Before x) (λ y. x.0 ≤ y.0) (λ y h. parent-order x.0 x.1 y.0 y.1 h) xs up.0, parents-rise xs up.1)

-- the parents do not fall
pub parents-sorted : (xs pairs ps : List (ℕ × ℕ)) → Sorted NotAfter xs → pairs ≡ with_pairs [] xs → ps ≡ pairs → Sorted (λ x y. x.0 ≤ y.0) ps
parents-sorted xs pairs ps up e f = subst (Sorted (λ x y. x.0 ≤ y.0)) (sym (f ∙ e)) (parents-rise (with_pairs [] xs) (Sorted-with_pairs xs [] tt up tt))

-- ---- segments

one-more : (b d : Bool) (m n : ℕ) → (b ≡ true → d ≡ true) → m ≤ n → cond b (suc m) m ≤ cond d (suc n) n
one-more true true m n f h = omega arith
one-more true false m n f h = let e = f refl in cc
one-more false true m n f h = omega arith
one-more false false m n f h = h

length-cond : (b : Bool) (x : ℕ × ℕ) (xs : List (ℕ × ℕ)) → length (cond b (x ∷ xs) xs) ≡ cond b (suc (length xs)) (length xs)
length-cond true x xs = refl
length-cond false x xs = refl

later : (a r : ℕ) → ltb a r ≡ true → ltb a (r + 1) ≡ true
later a r h = grind (arith, nat_tests)

before-rises : (pairs : List (ℕ × ℕ)) (r : ℕ) → before pairs r ≤ before pairs (r + 1)
before-rises [] r = omega arith
before-rises (x ∷ pairs) r =
    let a = length-cond (ltb x.0 r) x (filter (λ x. ltb x.0 r) pairs) in
    let b = length-cond (ltb x.0 (r + 1)) x (filter (λ x. ltb x.0 (r + 1)) pairs) in
    let h = one-more (ltb x.0 r) (ltb x.0 (r + 1)) (before pairs r) (before pairs (r + 1)) (later x.0 r) (before-rises pairs r) in
    rw (a, b) h

before-within : (pairs : List (ℕ × ℕ)) (r : ℕ) → before pairs r ≤ length pairs
before-within [] r = omega arith
before-within (x ∷ pairs) r =
    let a = length-cond (ltb x.0 r) x (filter (λ x. ltb x.0 r) pairs) in
    let h = one-more (ltb x.0 r) true (before pairs r) (length pairs) (λ _. refl) (before-within pairs r) in
    rw a h

segment-at : (pairs : List (ℕ × ℕ)) (segments : List ℕ) (n r : ℕ) → segments ≡ map (before pairs) (below n) → r < length segments → slice_index segments r ≡ before pairs r
segment-at pairs segments n r made h =
    let long : length segments ≡ n = ap length made ∙ length-map-range_with_len (before pairs) 0 n in
    ap (λ t. slice_index t r) made ∙ get_or-map-range_with_len (before pairs) 0 n r r 0 (omega arith) (zero-add r)

pub segments-rise : (pairs : List (ℕ × ℕ)) (segments : List ℕ) (n : ℕ) → segments ≡ map (before pairs) (below n) → (r : ℕ) → r + 1 < length segments → slice_index segments r ≤ slice_index segments (r + 1)
segments-rise pairs segments n made r h =
    let a = segment-at pairs segments n r made (omega arith) in
    let b = segment-at pairs segments n (r + 1) made h in
    let c = before-rises pairs r in
    rw (a, b) c

pub segments-within : (pairs : List (ℕ × ℕ)) (segments coordinates : List ℕ) (n : ℕ) → segments ≡ map (before pairs) (below n) → coordinates ≡ map (λ (x : ℕ × ℕ). x.1) pairs
    → (r : ℕ) → r < length segments → slice_index segments r ≤ length coordinates
segments-within pairs segments coordinates n made seconds r h =
    let a = segment-at pairs segments n r made h in
    let b : length coordinates ≡ length pairs = ap length seconds ∙ length-map pairs (λ (x : ℕ × ℕ). x.1) in
    let c = before-within pairs r in
    rw (a, b) c
