-- The words of a text.
use Rattle.std.specs.Prelude.{ℕ, List, [], ◌∷◌, Bool, true, false, ◌==◌, filter, drop}
use Rattle.std.specs.List.{prefix_len, position_or_len, slice_split}
use Rattle.sam_text.specs.Bytes.{is_gap}

abbrev pub has_bytes : List ℕ → Bool
has_bytes [] = false
has_bytes (b ∷ bs) = true

-- A word is a longest run of bytes that aren't gaps: of the parts between gaps, those with bytes.
abbrev pub words : List ℕ → List (List ℕ)
words bs = filter has_bytes (slice_split is_gap bs)

-- what stands behind the first word
abbrev pub behind_gaps : List ℕ → List ℕ
behind_gaps bs = drop (prefix_len is_gap bs) bs

abbrev pub behind_word : List ℕ → List ℕ
behind_word bs = drop (position_or_len is_gap (behind_gaps bs)) (behind_gaps bs)

abbrev pub begins_comment : List ℕ → Bool
begins_comment [] = false
begins_comment (b ∷ bs) = b == 35

-- whether a line is skipped, by its words: it has none, or a `#` begins the first
abbrev pub is_skipped : List (List ℕ) → Bool
is_skipped [] = true
is_skipped (word ∷ more) = begins_comment word
