-- The words that begin the lines of a program file.
use Rattle.std.specs.Prelude.{◌≡◌, ℕ, Bool, true, false, List, [], ◌∷◌, codes}
use Rattle.std.specs.Str.{bytes_eq}
use Rattle.std.specs.Borrow.{Bor}
use Rattle.sam_text.specs.Words.{words, behind_word}

abbrev pub tensor_word : List ℕ
tensor_word = codes "tensor"

abbrev pub result_word : List ℕ
result_word = codes "result"

abbrev pub compute_word : List ℕ
compute_word = codes "compute"

abbrev pub loops_word : List ℕ
loops_word = codes "loops"

-- a line, by its words, begins with a keyword
abbrev pub starts : List ℕ → List (List ℕ) → Bool
starts keyword [] = false
starts keyword (w ∷ ws) = bytes_eq w keyword

-- the words behind the first
abbrev pub others : List (List ℕ) → List (List ℕ)
others [] = []
others (w ∷ ws) = ws

-- what stands behind a keyword
pub record Behind (line keyword : List ℕ) (rest : Bor (List ℕ)) : Type 0 where
  pub starts : starts keyword (words line) ≡ true
  pub words : words rest.now ≡ others (words line)
  pub text : rest.now ≡ behind_word line
