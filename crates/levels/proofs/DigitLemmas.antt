-- The digits of a number with a digit for each coordinate are the coordinates.
use Rattle.std.proofs.Common.{◌≡◌, ℕ, zero, suc, ◌+◌, ◌*◌, ◌/◌, ◌%◌, ◌<◌, ◌≤◌, ◌≢◌, ◌⊎◌, inl, inr, Bool, true, ◌&&◌, List, [], ◌∷◌, length, take, drop, set, get_or, get_or-set_other, get_or-set_same, ltb, refl, ap, sym, subst, ◌∙◌, arith}
use Rattle.std.proofs.lemmas.Bool.{cases_order}
use Rattle.std.proofs.lemmas.Bool.Decides.{nat_tests}
use Rattle.std.proofs.lemmas.List.{drop_more}
use Rattle.std.proofs.lemmas.Nat.{div-mul-add, mod-mul-add, mul-add-lt}
use Rattle.std.proofs.Math.Nat.{mul_comm, div-lt_iff_lt-mul, mod-lt}
use Rattle.sam_model.specs.Lists.{within}
use Rattle.levels.specs.Keys.{packed, weight, digits}
use Rattle.levels.proofs.Orders.{and-right}

pub length-digits : (sizes : List ℕ) (n : ℕ) → length (digits sizes n) ≡ length sizes
length-digits [] n = refl
length-digits (s ∷ sizes) n = ap suc (length-digits sizes (n % weight sizes))

pub below-size : (c s : ℕ) (r : Bool) → (ltb c s && r) ≡ true → c < s
below-size c s r h = grind (arith, nat_tests)

-- digits in front add their weight
packed-more : (sizes cs : List ℕ) (a : ℕ) → length cs ≡ length sizes → packed a sizes cs ≡ a * weight sizes + packed 0 sizes cs
packed-more [] [] a e = grind arith
packed-more [] (c ∷ cs) a e = absurd (omega (arith, e))
packed-more (s ∷ sizes) [] a e = absurd (omega (arith, e))
packed-more (s ∷ sizes) (c ∷ cs) a e =
    let long : length cs ≡ length sizes = omega (arith, e) in
    packed-more sizes cs (a * s + c) long ∙ join (weight sizes) (packed 0 sizes cs) ∙ ap (λ n. a * (s * weight sizes) + n) (sym (packed-more sizes cs (0 * s + c) long))
  where
    join : (w p : ℕ) → (a * s + c) * w + p ≡ a * (s * w) + ((0 * s + c) * w + p)
    join w p = grind arith

first : (s c : ℕ) (sizes cs : List ℕ) → length cs ≡ length sizes → packed 0 (s ∷ sizes) (c ∷ cs) ≡ c * weight sizes + packed 0 sizes cs
first s c sizes cs e = packed-more sizes cs (0 * s + c) e ∙ ap (λ n. n * weight sizes + packed 0 sizes cs) (alone s)
  where
    alone : (s : ℕ) → 0 * s + c ≡ c
    alone s = grind arith

pub packed-small : (sizes cs : List ℕ) → length cs ≡ length sizes → within sizes cs ≡ true → packed 0 sizes cs < weight sizes
packed-small [] [] e h = omega arith
packed-small [] (c ∷ cs) e h = absurd (omega (arith, e))
packed-small (s ∷ sizes) [] e h = absurd (omega (arith, e))
packed-small (s ∷ sizes) (c ∷ cs) e h =
    let long : length cs ≡ length sizes = omega (arith, e) in
    let rest = packed-small sizes cs long (and-right (ltb c s) (within sizes cs) h) in
    let sum = mul-add-lt c (weight sizes) (packed 0 sizes cs) s (below-size c s (within sizes cs) h) rest in
    subst (λ (n : ℕ). n < s * weight sizes) (sym (first s c sizes cs long)) (subst (λ (n : ℕ). c * weight sizes + packed 0 sizes cs < n) (mul_comm (weight sizes) s) sum)

pub digits-packed : (sizes cs : List ℕ) → length cs ≡ length sizes → within sizes cs ≡ true → digits sizes (packed 0 sizes cs) ≡ cs
digits-packed [] [] e h = refl
digits-packed [] (c ∷ cs) e h = absurd (omega (arith, e))
digits-packed (s ∷ sizes) [] e h = absurd (omega (arith, e))
digits-packed (s ∷ sizes) (c ∷ cs) e h =
    let long : length cs ≡ length sizes = omega (arith, e) in
    let inside = and-right (ltb c s) (within sizes cs) h in
    let small = packed-small sizes cs long inside in
    ap (digits (s ∷ sizes)) (first s c sizes cs long)
    ∙ two (div-mul-add c (weight sizes) (packed 0 sizes cs) small) (ap (digits sizes) (mod-mul-add c (weight sizes) (packed 0 sizes cs) small) ∙ digits-packed sizes cs long inside)
  where
    two : {a b : ℕ} {xs ys : List ℕ} → a ≡ b → xs ≡ ys → a ∷ xs ≡ b ∷ ys
    two e f = cc

-- ---- a digit after the other

module _ (sizes : List ℕ) (k rest : ℕ) (inside : k < length sizes) where
  pub next-digits : digits (drop k sizes) rest ≡ rest / weight (drop (k + 1) sizes) ∷ digits (drop (k + 1) sizes) (rest % weight (drop (k + 1) sizes))
  next-digits = ap (λ (ss : List ℕ). digits ss rest) (drop_more sizes k 0 inside)

  pub next-weight : weight (drop k sizes) ≡ get_or sizes k 0 * weight (drop (k + 1) sizes)
  next-weight = ap weight (drop_more sizes k 0 inside)

  pub digit-small : rest < weight (drop k sizes) → 0 < weight (drop (k + 1) sizes) → rest / weight (drop (k + 1) sizes) < get_or sizes k 0
  digit-small h some = (div-lt_iff_lt-mul some).1 (subst (λ (n : ℕ). rest < n) next-weight h)

-- what a step of unpacking knows: the digit, and what is left
pub record Step (sizes all : List ℕ) (k rest w : ℕ) : Type 0 where
  pub small : rest / w < get_or sizes k 0
  pub left : rest % w < weight (drop (k + 1) sizes)
  pub here : get_or all k 0 ≡ rest / w
  pub others : drop (k + 1) all ≡ digits (drop (k + 1) sizes) (rest % w)

pub digit-step : (sizes all : List ℕ) (k rest w : ℕ) → k < length sizes → length all ≡ length sizes → w ≡ weight (drop (k + 1) sizes) → 0 < w
    → rest < weight (drop k sizes) → drop k all ≡ digits (drop k sizes) rest → Step sizes all k rest w
digit-step sizes all k rest w inside long is some small same =
    let some' : 0 < weight (drop (k + 1) sizes) = subst (λ (n : ℕ). 0 < n) is some in
    let split : get_or all k 0 ∷ drop (k + 1) all ≡ rest / w ∷ digits (drop (k + 1) sizes) (rest % w)
    = sym (drop_more all k 0 (omega (arith, inside, long))) ∙ same ∙ next-digits sizes k rest inside
    ∙ ap (λ (n : ℕ). rest / n ∷ digits (drop (k + 1) sizes) (rest % n)) (sym is) in
    record {
      small = subst (λ (n : ℕ). rest / n < get_or sizes k 0) (sym is) (digit-small sizes k rest inside small some');
      left = subst (λ (n : ℕ). rest % n < weight (drop (k + 1) sizes)) (sym is) (mod-lt rest some');
      here = head split;
      others = tail split;
    }
  where
    head : {a b : ℕ} {xs ys : List ℕ} → a ∷ xs ≡ b ∷ ys → a ≡ b
    head e = cc

    tail : {a b : ℕ} {xs ys : List ℕ} → a ∷ xs ≡ b ∷ ys → xs ≡ ys
    tail e = cc

-- a list that has the items of another in front
pub front-is : (n : ℕ) (xs ys : List ℕ) → length ys ≡ n → n ≤ length xs → ((j : ℕ) → j < n → get_or xs j 0 ≡ get_or ys j 0) → take n xs ≡ ys
front-is zero xs [] e h f = refl
front-is zero xs (y ∷ ys) e h f = absurd (omega (arith, e))
front-is (suc n) [] ys e h f = absurd (omega (arith, h))
front-is (suc n) (x ∷ xs) [] e h f = absurd (omega (arith, e))
front-is (suc n) (x ∷ xs) (y ∷ ys) e h f =
    let here : x ≡ y = f 0 (omega arith) in
    let there = front-is n xs ys (omega (arith, e)) (omega (arith, h)) (λ j l. f (suc j) (omega arith)) in
    cc (here, there)

-- what holds of the items from a place on, where that item is written
pub set-front : (P : ℕ → ℕ → Type 0) (xs : List ℕ) (p v n : ℕ) → p < length xs → P p v → ((k : ℕ) → p + 1 ≤ k → k < n → P k (get_or xs k 0))
    → (k : ℕ) → p ≤ k → k < n → P k (get_or (set xs p v) k 0)
set-front P xs p v n h first others k l m = by_case (cases_order k p)
  where
    by_case : (k ≡ p) ⊎ ((k < p) ⊎ (p < k)) → P k (get_or (set xs p v) k 0)
    by_case (inl e) = subst (λ (i : ℕ). P i (get_or (set xs p v) i 0)) (sym e) (subst (P p) (sym (get_or-set_same xs p v 0 h)) first)
    by_case (inr (inl g)) = absurd (omega (arith, l, g))
    by_case (inr (inr g)) =
        let apart : k ≢ p = omega (arith, g) in
        subst (P k) (sym (get_or-set_other xs p k v 0 apart)) (others k (omega (arith, g)) m)
