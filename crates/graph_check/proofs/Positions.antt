-- Places that a search through a list answers.
use Rattle.std.specs.Prelude.{nat_lt}
use Rattle.std.specs.Option.{unwrap_or}
use Rattle.std.specs.List.{position_or_len, range_with_len}
use mathlib.Core.List.{map}
use Rattle.std.proofs.Common.{◌≡◌, ◌<◌, ◌≤◌, ℕ, ◌+◌, ◌-◌, Bool, true, false, cond, not, Option, Some, None, List, [], ◌∷◌, ◌++◌, length, get_or, ltb, leb, ◌&&◌, arith, sym, ◌∙◌, ap, refl}
use Rattle.std.proofs.lemmas.Bool.{lt-ltb, le-leb}
use Rattle.std.proofs.lemmas.Bool.Decides.{nat_tests}
use Rattle.std.proofs.lemmas.List.FromFn.{map-range_with_len_more, get_or-map-range_with_len}
use Rattle.std.proofs.lemmas.List.Sums.{prefix_len-le-length}

-- the first place that passes, or the length where none does
pub or-length : {X : Type 0} (test : X → Bool) (xs : List X) (r : Option ℕ)
    → r ≡ cond (nat_lt (position_or_len test xs) (length xs)) (Some (position_or_len test xs)) None
    → unwrap_or r (length xs) ≡ position_or_len test xs
or-length {X = X} test xs r e = ap (λ (x : Option ℕ). unwrap_or x (length xs)) e ∙ either (nat_lt (position_or_len test xs) (length xs)) refl
  where
    within : position_or_len test xs ≤ length xs
    within = prefix_len-le-length (λ x. not (test x)) xs

    either : (b : Bool) → nat_lt (position_or_len test xs) (length xs) ≡ b
        → unwrap_or (cond b (Some (position_or_len test xs)) None) (length xs) ≡ position_or_len test xs
    either true t = refl
    either false t = grind (arith, nat_tests, within)

-- one level more
pub level-more : {X : Type 0} (f : ℕ → X) (n : ℕ) (xs ys : List X) (x : X) → xs ≡ map f (range_with_len 1 n) → x ≡ f (n + 1) → ys ≡ xs ++ x ∷ []
    → ys ≡ map f (range_with_len 1 (n + 1))
level-more f n xs ys x e next more =
    let count : 1 + n ≡ n + 1 = omega arith in
    rw (more, e, next, map-range_with_len_more f 1 n (n + 1) count) refl

-- what is read of a level among the numbers of a range of levels
pub level-at : (f : ℕ → ℕ) (xs ys : List ℕ) (b d x : ℕ) → ys ≡ xs → xs ≡ map f (range_with_len 1 (length xs)) → 0 < d
    → d - 1 < length ys → x ≡ get_or ys (d - 1) x → leb b x ≡ ((ltb 0 d && leb d (length xs)) && leb b (f d))
level-at f xs ys b d x same are some less read =
    let long = ap (λ (zs : List ℕ). length zs) same in
    let within : d - 1 < length xs = omega (arith, less, long) in
    let back : 1 + (d - 1) ≡ d = omega (arith, some) in
    let is : x ≡ f d =
    read ∙ ap (λ (zs : List ℕ). get_or zs (d - 1) x) (same ∙ are)
    ∙ get_or-map-range_with_len f 1 (length xs) (d - 1) d x within back in
    let most : d ≤ length xs = omega (arith, within, some) in
    ap (leb b) is
    ∙ sym (ap (λ (t : Bool). (t && leb d (length xs)) && leb b (f d)) (lt-ltb 0 d some)
    ∙ ap (λ (t : Bool). (true && t) && leb b (f d)) (le-leb d (length xs) most))
