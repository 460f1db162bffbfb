-- Worked cases: the whole streams of the product of two vectors.
use Rattle.std.specs.Prelude.{◌≡◌, ℕ, List, [], ◌∷◌, refl}
use mathlib.Core.List.{map}
use Rattle.stream_tokens.specs.declared.Token.{Token}
use Rattle.stream_tokens.specs.declared.Token.TheVariants.{Item, Stop, Done}
use Rattle.graph.specs.WholeStreams.{whole_stream, whole_inputs}
use Rattle.graph.specs.Standing.{start_position, final_position}
use Rattle.graph.proofs.Vectors.{vectors, stored}

abbrev vector : List ℕ → List Token
vector [] = Stop 0 ∷ Done ∷ []
vector (x ∷ xs) = Item x ∷ vector xs

-- the root, and its two copies
roots : map (whole_stream stored vectors) (0 ∷ 13 ∷ 14 ∷ []) ≡ (Item 0 ∷ Done ∷ []) ∷ (Item 0 ∷ Done ∷ []) ∷ (Item 0 ∷ Done ∷ []) ∷ []
roots = refl

-- coordinates and references of the vectors
scanned : map (whole_stream stored vectors) (1 ∷ 2 ∷ 3 ∷ 4 ∷ [])
    ≡ vector (0 ∷ 2 ∷ []) ∷ vector (0 ∷ 1 ∷ []) ∷ vector (2 ∷ 3 ∷ []) ∷ vector (0 ∷ 1 ∷ []) ∷ []
scanned = refl

-- the coordinate that both have, and its references
met : map (whole_stream stored vectors) (5 ∷ 6 ∷ 7 ∷ []) ≡ vector (2 ∷ []) ∷ vector (1 ∷ []) ∷ vector (0 ∷ []) ∷ []
met = refl

-- the values there, and their product
valued : map (whole_stream stored vectors) (8 ∷ 9 ∷ 10 ∷ []) ≡ vector (5 ∷ []) ∷ vector (7 ∷ []) ∷ vector (35 ∷ []) ∷ []
valued = refl

-- what is written
written : map (whole_stream stored vectors) (11 ∷ 12 ∷ []) ≡ vector (2 ∷ []) ∷ vector (35 ∷ []) ∷ []
written = refl

-- the inputs of the product, and the moves of a block and of a writer
factors : whole_inputs stored vectors 6 ≡ vector (5 ∷ []) ∷ vector (7 ∷ []) ∷ []
factors = refl

moved : (final_position stored vectors 6 ≡ 9) × (final_position stored vectors 9 ≡ 3) × (start_position 6 ≡ 0)
moved = (refl, refl, refl)
