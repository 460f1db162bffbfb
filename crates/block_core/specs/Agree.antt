-- Where two lists of moves take the same tokens.
use Rattle.std.specs.Prelude.{◌≡◌, ℕ, zero, suc, List, [], ◌∷◌}
use Rattle.block_core.specs.Move.{Move, Taking, Putting}

-- the tokens that the first n moves of one list take are those that the same moves of the other take
abbrev pub AgreeFor : ℕ → List Move → List Move → Type 0
AgreeFor zero xs ys = Unit {0}
AgreeFor (suc n) [] ys = Unit {0}
AgreeFor (suc n) (Taking p t ∷ xs) [] = Unit {0}
AgreeFor (suc n) (Taking p t ∷ xs) (Taking q u ∷ ys) = (t ≡ u) × AgreeFor n xs ys
AgreeFor (suc n) (Taking p t ∷ xs) (Putting q u ∷ ys) = Unit {0}
AgreeFor (suc n) (Putting p t ∷ xs) [] = Unit {0}
AgreeFor (suc n) (Putting p t ∷ xs) (Taking q u ∷ ys) = Unit {0}
AgreeFor (suc n) (Putting p t ∷ xs) (Putting q u ∷ ys) = AgreeFor n xs ys
