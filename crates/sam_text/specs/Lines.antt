-- The lines of a text.
use Rattle.std.specs.Prelude.{ℕ, List, [], ◌∷◌, if◌then◌else◌}
use Rattle.std.specs.List.{onto_first}
use Rattle.sam_text.specs.Bytes.{is_newline}

-- A line ends at a newline or at the end of the text; what stands behind the last newline is a line where it isn't empty.
abbrev pub lines : List ℕ → List (List ℕ)
lines [] = []
lines (b ∷ bs) = if is_newline b then [] ∷ lines bs else onto_first b (lines bs)
