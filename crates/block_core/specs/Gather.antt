-- Elements with coordinates, brought together by coordinate.
use Rattle.std.specs.Prelude.{ℕ, List, [], ◌∷◌, eqb, ltb, cond}
use Rattle.std.specs.List.{flat_map}

-- an element added at its coordinate to elements with distinct ascending coordinates
abbrev pub add_at : {V : Type 0} → (V → V → V) → ℕ → V → List (ℕ × V) → List (ℕ × V)
add_at add c v [] = (c, v) ∷ []
add_at add c v (p ∷ ps) = cond (ltb c p.0) ((c, v) ∷ p ∷ ps) (cond (eqb c p.0) ((c, add v p.1) ∷ ps) (p ∷ add_at add c v ps))

-- the distinct coordinates, ascending, each with the sum of its elements
abbrev pub gather : {V : Type 0} → (V → V → V) → List (ℕ × V) → List (ℕ × V)
gather add [] = []
gather add (p ∷ ps) = add_at add p.0 p.1 (gather add ps)

abbrev pub all_of : {A : Type 0} → List (List A) → List A
all_of xss = flat_map (λ xs. xs) xss
