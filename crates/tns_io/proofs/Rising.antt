-- Lists that ascend, by their neighbours.
use Rattle.std.proofs.Common.{ℕ, zero, suc, ◌<◌, ◌≤◌, List, [], ◌∷◌, length, get_or, arith}
use Rattle.std.specs.List.Sorted.{IsNonDecreasing}

-- each number is at least the one before
abbrev pub Rises : ℕ → List ℕ → Type 0
Rises x [] = Unit {0}
Rises x (y ∷ ys) = (x ≤ y) × Rises y ys

least : (x : ℕ) (xs : List ℕ) (j d : ℕ) → Rises x xs → j < length xs → x ≤ get_or xs j d
least x [] j d h k = absurd (omega (arith, k))
least x (y ∷ ys) zero d h k = h.0
least x (y ∷ ys) (suc j) d h k = let more = least y ys j d h.1 (omega arith) in omega (arith, h.0, more)

pub rising : (x : ℕ) (xs : List ℕ) → Rises x xs → IsNonDecreasing (x ∷ xs)
rising x xs h zero zero d i j = omega arith
rising x xs h zero (suc j) d i k = least x xs j d h (omega arith)
rising x xs h (suc i) zero d e k = absurd (omega (arith, e))
rising x [] h (suc i) (suc j) d e k = absurd (omega (arith, k))
rising x (y ∷ ys) h (suc i) (suc j) d e k = rising y ys h.1 i j d (omega arith) (omega arith)
