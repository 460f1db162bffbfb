-- Names.
use Rattle.std.specs.Prelude.{ℕ, List, [], ◌∷◌, Bool, false, ◌&&◌, not, codes}
use Rattle.std.specs.List.{list_all}
use Rattle.std.specs.Str.{bytes_eq}
use Rattle.sam_text.specs.Bytes.{is_letter, is_name_byte}

-- the one word that is no name
abbrev pub sum_word : List ℕ
sum_word = codes "sum"

-- a letter or `_`, then letters, digits or `_`
abbrev pub is_word_name : List ℕ → Bool
is_word_name [] = false
is_word_name (b ∷ bs) = is_letter b && list_all is_name_byte bs

abbrev pub is_name : List ℕ → Bool
is_name bs = is_word_name bs && not (bytes_eq bs sum_word)
