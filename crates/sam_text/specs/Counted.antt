-- The lines of a text that count, with their numbers.
use Rattle.std.specs.Prelude.{ℕ, ◌+◌, List, [], ◌∷◌, if◌then◌else◌}
use Rattle.sam_text.specs.Words.{words, is_skipped}

-- a line with its number
pub record NumberedLine : Type 0 where
  pub number : ℕ
  pub text : List ℕ

-- those of some lines that aren't skipped, where the first of all has this number
abbrev pub counted_lines : ℕ → List (List ℕ) → List NumberedLine
counted_lines number [] = []
counted_lines number (text ∷ texts) =
    if is_skipped (words text) then counted_lines (number + 1) texts
    else (record { number = number; text = text }) ∷ counted_lines (number + 1) texts
