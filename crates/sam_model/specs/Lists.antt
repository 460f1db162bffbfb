-- Lists of numbers: ranges, tuples, items and orders.
use Rattle.std.specs.Prelude.{ℕ, ◌+◌, Bool, true, false, cond, ◌&&◌, ◌||◌, List, [], ◌∷◌, slice_index, eqb, ltb}
use Rattle.std.specs.List.{flat_map, list_any, range_with_len}
use mathlib.Core.List.{map}

-- the numbers below n, ascending
abbrev pub below : ℕ → List ℕ
below n = range_with_len 0 n

-- the items at these places
abbrev pub items_at : List ℕ → List ℕ → List ℕ
items_at xs places = map (slice_index xs) places

-- the sum of f over a list
abbrev pub total : {A : Type 0} → (A → ℕ) → List A → ℕ
total f [] = 0
total f (x ∷ xs) = f x + total f xs

-- whether v is one of them
abbrev pub is_in : ℕ → List ℕ → Bool
is_in v vs = list_any (eqb v) vs

-- all tuples below these sizes, ascending
abbrev pub tuples : List ℕ → List (List ℕ)
tuples [] = [] ∷ []
tuples (s ∷ sizes) = flat_map (λ c. map (λ u. c ∷ u) (tuples sizes)) (below s)

-- two lists of numbers are equal
abbrev pub same_list : List ℕ → List ℕ → Bool
same_list [] [] = true
same_list [] (y ∷ ys) = false
same_list (x ∷ xs) [] = false
same_list (x ∷ xs) (y ∷ ys) = eqb x y && same_list xs ys

-- the first list comes before the second
abbrev pub smaller : List ℕ → List ℕ → Bool
smaller [] [] = false
smaller [] (y ∷ ys) = true
smaller (x ∷ xs) [] = false
smaller (x ∷ xs) (y ∷ ys) = ltb x y || (eqb x y && smaller xs ys)

-- p is no longer than the sizes, and each coordinate is below its own
abbrev pub within : List ℕ → List ℕ → Bool
within sizes [] = true
within [] (c ∷ p) = false
within (s ∷ sizes) (c ∷ p) = ltb c s && within sizes p

-- the number that a tuple for these variables gives to v
abbrev pub coordinate : List ℕ → List ℕ → ℕ → ℕ
coordinate [] u v = 0
coordinate (w ∷ ws) [] v = 0
coordinate (w ∷ ws) (c ∷ u) v = cond (eqb v w) c (coordinate ws u v)
