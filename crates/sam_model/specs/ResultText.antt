-- The text of a result.
use Rattle.std.specs.Prelude.{ℕ, ◌+◌, ◌-◌, ◌^◌, cond, List, [], ◌∷◌, ◌++◌, length, decimal, ltb}
use Rattle.std.specs.List.{flat_map}
use mathlib.Core.List.{map}
use Rattle.sam_model.specs.declared.tensors.Entries.{Entries}
use Rattle.sam_model.specs.declared.program.Program.{Program}
use Rattle.sam_model.specs.Lists.{below, coordinate}
use Rattle.sam_model.specs.Denote.{result_entries}

-- a number modulo 2^64 as a signed 64-bit number
abbrev pub signed_text : ℕ → List ℕ
signed_text v = cond (ltb v (2 ^ 63)) (decimal v) (45 ∷ decimal (2 ^ 64 - v))

-- the line of an entry: its coordinates, by mode and from 1, and its value, joined by single spaces
abbrev pub entry_text : List ℕ → ℕ → List ℕ
entry_text [] v = signed_text v ++ 10 ∷ []
entry_text (c ∷ cs) v = decimal (c + 1) ++ 32 ∷ entry_text cs v

-- coordinates in storage order, by mode
abbrev pub by_modes : List ℕ → List ℕ → List ℕ
by_modes order x = map (coordinate order x) (below (length order))

-- a line for each entry, whose coordinates are in storage order
abbrev pub listing_text : List ℕ → List (List ℕ × ℕ) → List ℕ
listing_text order entries = flat_map (λ entry. entry_text (by_modes order entry.0) entry.1) entries

-- the text of what is found by a program's terms
abbrev pub entries_text : Program → List Entries → List ℕ
entries_text p es = listing_text p.result.order (result_entries p es)
