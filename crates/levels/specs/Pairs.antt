-- Pairs of a parent and a coordinate: those that rows have, ascending and each once.
use Rattle.std.specs.Prelude.{◌≡◌, ℕ, Bool, false, cond, ◌&&◌, ◌||◌, List, [], ◌∷◌, length, eqb, ltb}
use Rattle.std.specs.List.{filter}

abbrev pub same_pair : ℕ × ℕ → ℕ × ℕ → Bool
same_pair x y = eqb x.0 y.0 && eqb x.1 y.1

-- the first pair comes before the second
abbrev pub pair_below : ℕ × ℕ → ℕ × ℕ → Bool
pair_below x y = ltb x.0 y.0 || (eqb x.0 y.0 && ltb x.1 y.1)

-- the second pair does not come before the first
abbrev pub NotAfter : ℕ × ℕ → ℕ × ℕ → Type 0
NotAfter x y = pair_below y x ≡ false

-- whether a pair is the last of the list
abbrev pub ends_with : List (ℕ × ℕ) → ℕ × ℕ → Bool
ends_with [] x = false
ends_with (y ∷ []) x = same_pair y x
ends_with (y ∷ z ∷ pairs) x = ends_with (z ∷ pairs) x

-- a pair goes to the end of the list, unless it is the last already
abbrev pub with_pair : List (ℕ × ℕ) → ℕ × ℕ → List (ℕ × ℕ)
with_pair [] x = x ∷ []
with_pair (y ∷ []) x = cond (same_pair y x) (y ∷ []) (y ∷ x ∷ [])
with_pair (y ∷ z ∷ pairs) x = y ∷ with_pair (z ∷ pairs) x

abbrev pub with_pairs : List (ℕ × ℕ) → List (ℕ × ℕ) → List (ℕ × ℕ)
with_pairs pairs [] = pairs
with_pairs pairs (x ∷ xs) = with_pairs (with_pair pairs x) xs

-- how many pairs have a smaller parent
abbrev pub before : List (ℕ × ℕ) → ℕ → ℕ
before pairs r = length (filter (λ x. ltb x.0 r) pairs)
