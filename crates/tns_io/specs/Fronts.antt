-- The fronts of entries: their first coordinates, each once. Coordinates are in storage order.
use Rattle.std.specs.Prelude.{◌≡◌, ℕ, true, cond, List, [], ◌∷◌, take}
use Rattle.sam_base.specs.Each.{Each}
use Rattle.sam_model.specs.Lists.{same_list, smaller}

-- each path comes before those after it
abbrev pub PathsAscend : List (List ℕ × ℕ) → Type 0
PathsAscend [] = Unit {0}
PathsAscend (e ∷ es) = Each (λ later. smaller e.0 later.0 ≡ true) es × PathsAscend es

-- the first q coordinates of each entry behind one with this front, where equal ones stand side by side
abbrev pub fronts_behind : ℕ → List ℕ → List (List ℕ × ℕ) → List (List ℕ)
fronts_behind q front [] = []
fronts_behind q front (e ∷ es) = cond (same_list front (take q e.0)) (fronts_behind q front es) (take q e.0 ∷ fronts_behind q (take q e.0) es)

abbrev pub fronts : ℕ → List (List ℕ × ℕ) → List (List ℕ)
fronts q [] = []
fronts q (e ∷ es) = take q e.0 ∷ fronts_behind q (take q e.0) es
