-- Rows and the pairs and values that they have.
use Rattle.std.proofs.Common.{◌≡◌, ℕ, zero, suc, ◌<◌, List, [], ◌∷◌, length, get_or, take, refl, ap, arith}
use Rattle.std.specs.Prelude.{slice_index}
use mathlib.Core.List.{map}
use Rattle.levels.specs.declared.rows.Row.{Row}
use Rattle.levels.specs.Rows.{row_entry, row_pairs, ranked_values}
use Rattle.levels.specs.Placed.{pairs_at}

pub length-row_pairs : (parents : List ℕ) (place : ℕ) (rows : List Row) → length parents ≡ length rows → length (row_pairs parents place rows) ≡ length rows
length-row_pairs [] place [] e = refl
length-row_pairs [] place (row ∷ rows) e = absurd (omega arith)
length-row_pairs (p ∷ parents) place [] e = absurd (omega arith)
length-row_pairs (p ∷ parents) place (row ∷ rows) e = ap suc (length-row_pairs parents place rows (omega arith))

pub row_pairs-at : (parents : List ℕ) (place : ℕ) (rows : List Row) (n : ℕ) (d : Row) → length parents ≡ length rows → n < length rows
    → get_or (row_pairs parents place rows) n (0, 0) ≡ (get_or parents n 0, slice_index (get_or rows n d).coordinates place)
row_pairs-at parents place [] n d e h = absurd (omega arith)
row_pairs-at [] place (row ∷ rows) n d e h = absurd (omega arith)
row_pairs-at (p ∷ parents) place (row ∷ rows) zero d e h = refl
row_pairs-at (p ∷ parents) place (row ∷ rows) (suc n) d e h = row_pairs-at parents place rows n d (omega arith) (omega arith)

pub length-ranked_values : (ranks : List ℕ) (rows : List Row) → length ranks ≡ length rows → length (ranked_values ranks rows) ≡ length rows
length-ranked_values [] [] e = refl
length-ranked_values [] (row ∷ rows) e = absurd (omega arith)
length-ranked_values (p ∷ ranks) [] e = absurd (omega arith)
length-ranked_values (p ∷ ranks) (row ∷ rows) e = ap suc (length-ranked_values ranks rows (omega arith))

pub ranked_values-at : (ranks : List ℕ) (rows : List Row) (n : ℕ) (d : Row) → length ranks ≡ length rows → n < length rows
    → get_or (ranked_values ranks rows) n (0, 0) ≡ (get_or ranks n 0, (get_or rows n d).value)
ranked_values-at ranks [] n d e h = absurd (omega arith)
ranked_values-at [] (row ∷ rows) n d e h = absurd (omega arith)
ranked_values-at (p ∷ ranks) (row ∷ rows) zero d e h = refl
ranked_values-at (p ∷ ranks) (row ∷ rows) (suc n) d e h = ranked_values-at ranks rows n d (omega arith) (omega arith)

front-at : (n k : ℕ) (xs : List ℕ) → k < n → slice_index (take n xs) k ≡ slice_index xs k
front-at zero k xs h = absurd (omega arith)
front-at (suc n) k [] h = refl
front-at (suc n) zero (x ∷ xs) h = refl
front-at (suc n) (suc k) (x ∷ xs) h = front-at n k xs (omega arith)

-- the pairs of rows are those of their entries
pub row_pairs-entries : (parents : List ℕ) (place n : ℕ) (rows : List Row) → place < n → row_pairs parents place rows ≡ pairs_at parents place (map (row_entry n) rows)
row_pairs-entries [] place n rows h = refl
row_pairs-entries (p ∷ parents) place n [] h = refl
row_pairs-entries (p ∷ parents) place n (row ∷ rows) h =
    let here = front-at n place row.coordinates h in
    let there = row_pairs-entries parents place n rows h in
    cc (here, there)
