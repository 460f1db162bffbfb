-- What code counts one by one: ranges, and the levels of an access before a loop.
use Rattle.std.proofs.Common.{◌≡◌, ◌<◌, ◌≤◌, ap, arith, ℕ, zero, suc, ◌+◌, ◌-◌, Bool, true, false, cond, List, [], ◌∷◌, ◌++◌, length, get_or, drop, drop-cons, add-one, zero-add, one-add, refl, sym, ◌∙◌}
use Rattle.std.specs.List.{range_with_len}
use Rattle.stream_model.specs.Masks.{levels_before}

range_ends : (a k : ℕ) → range_with_len a (suc k) ≡ range_with_len a k ++ (a + k) ∷ []
range_ends a zero = let e : a ≡ a + 0 = omega arith in ap (λ n. n ∷ []) e
range_ends a (suc k) =
    let e : a + 1 + k ≡ a + suc k = omega arith in
    ap (λ ns. a ∷ ns) (range_ends (a + 1) k ∙ ap (λ n. range_with_len (a + 1) k ++ n ∷ []) e)

-- a range with one number more
pub range_more : (a k : ℕ) → range_with_len a (k + 1) ≡ range_with_len a k ++ (a + k) ∷ []
range_more a k = rw add-one (range_ends a k)

-- a range is its first number and the rest
pub range_further : (n end : ℕ) → n < end → range_with_len n (end - n) ≡ n ∷ range_with_len (n + 1) (end - (n + 1))
range_further n end h = let less : end - n ≡ suc (end - (n + 1)) = omega arith in ap (range_with_len n) less

none_before : (has : List Bool) → levels_before has 0 ≡ 0
none_before [] = refl
none_before (b ∷ has) = refl

-- past the loop none is counted
pub levels_past : (has : List Bool) (d i : ℕ) → d ≤ i → levels_before (drop i has) (d - i) ≡ 0
levels_past has d i h = let e : d - i ≡ 0 = omega arith in ap (levels_before (drop i has)) e ∙ none_before (drop i has)

first_counted : (b : Bool) (has : List Bool) (n : ℕ) → levels_before (b ∷ has) (suc n) ≡ cond b 1 0 + levels_before has n
first_counted true has n = sym (one-add (levels_before has n))
first_counted false has n = sym (zero-add (levels_before has n))

-- one mark further
pub levels_further : (has : List Bool) (d i : ℕ) → i < length has → i < d
    → levels_before (drop i has) (d - i) ≡ cond (get_or has i false) 1 0 + levels_before (drop (i + 1) has) (d - (i + 1))
levels_further has d i h k =
    let less : d - i ≡ suc (d - (i + 1)) = omega arith in
    rw (less, drop-cons has i false, add-one) (first_counted (get_or has i false) (drop (suc i) has) (d - suc i))

-- there are no more levels than loops before
pub levels_few : (has : List Bool) (d : ℕ) → levels_before has d ≤ d
levels_few [] d = omega arith
levels_few (b ∷ has) zero = omega arith
levels_few (true ∷ has) (suc d) = let h = levels_few has d in omega arith
levels_few (false ∷ has) (suc d) = let h = levels_few has d in omega arith
