-- Rows added one after another make the rows of all of them, each with its sums.
use Rattle.std.proofs.Common.{◌≡◌, ℕ, List, [], ◌∷◌, ◌++◌, refl, sym, ◌∙◌, ap, append_assoc, append-nil}
use mathlib.Core.List.{map}
use Rattle.stream_tokens.specs.Nest.{Leaf}
use Rattle.block_core.specs.Gather.{add_at, gather, all_of}
use Rattle.block_core.specs.SumMatrix.{MatrixRow, MatrixPiece, append_pairs, row_sum, matrix_sum}
use Rattle.space_reducer.proofs.Changed.{change_at, change-swap, add-changes, map-change}
use Rattle.space_reducer.proofs.Ordered.{KeysAscend, ascends-change}
use Rattle.space_reducer.proofs.Folds.{from_left, from_left-append, left-right, gather-right, add_pair, added-gathers, by-pieces}

-- the pairs of a row added to those kept of its outer coordinate
abbrev pub add_pairs : List (ℕ × Leaf) → List (ℕ × Leaf) → List (ℕ × Leaf)
add_pairs ps kept = from_left add_pair kept ps

abbrev pub add_row : MatrixRow → List MatrixRow → List MatrixRow
add_row m rows = change_at [] (add_pairs m.1) m.0 rows

pub ascends-rows : (ms rows : List MatrixRow) → KeysAscend rows → KeysAscend (from_left add_row rows ms)
ascends-rows [] rows h = h
ascends-rows (m ∷ ms) rows h = ascends-rows ms (add_row m rows) (ascends-change [] (add_pairs m.1) m.0 rows h)

-- the same where the pairs are only listed
append-row : MatrixRow → List MatrixRow → List MatrixRow
append-row m rows = change_at [] (λ r. r ++ m.1) m.0 rows

join-row : MatrixRow → List MatrixRow → List MatrixRow
join-row m rows = add_at append_pairs m.0 m.1 rows

join-changes : (m : MatrixRow) (rows : List MatrixRow) → join-row m rows ≡ change_at [] (append_pairs m.1) m.0 rows
unfolding join-row
join-changes m rows = add-changes [] append_pairs append-nil m.0 m.1 rows

rows-swap : (m n : MatrixRow) (rows : List MatrixRow) → join-row m (append-row n rows) ≡ append-row n (join-row m rows)
unfolding append-row
rows-swap m n rows =
    join-changes m (append-row n rows)
    ∙ change-swap [] (append_pairs m.1) (λ r. r ++ n.1) m.0 n.0 rows (λ r. sym (append_assoc m.1 r n.1))
    ∙ ap (append-row n) (sym (join-changes m rows))

rows-listed : (ms : List MatrixRow) → from_left append-row [] ms ≡ gather append_pairs ms
unfolding append-row join-row
rows-listed ms = left-right append-row join-row [] rows-swap (λ m. refl) ms ∙ sym (gather-right append_pairs ms)

-- listed pairs summed afterwards are pairs added at once
row-added : MatrixRow → MatrixRow
row-added g = (g.0, from_left add_pair [] g.1)

rows-summed : (ms rows : List MatrixRow) → map row-added (from_left append-row rows ms) ≡ from_left add_row (map row-added rows) ms
unfolding append-row row-added
rows-summed [] rows = refl
rows-summed (m ∷ ms) rows =
    rows-summed ms (append-row m rows)
    ∙ ap (λ xs. from_left add_row xs ms)
    (map-change (from_left add_pair []) [] [] (λ r. r ++ m.1) (add_pairs m.1) m.0 rows refl (λ r. from_left-append add_pair [] r m.1))

same-sums : (gs : List MatrixRow) → map row-added gs ≡ map row_sum gs
unfolding row-added
same-sums [] = refl
same-sums (g ∷ gs) = ap (λ ps. (g.0, ps) ∷ map row-added gs) (added-gathers g.1) ∙ ap (λ xs. row_sum g ∷ xs) (same-sums gs)

pub rows-gather : (xss : MatrixPiece) → from_left (λ xs rows. from_left add_row rows xs) [] xss ≡ matrix_sum xss
rows-gather xss =
    by-pieces add_row [] xss
    ∙ sym (rows-summed (all_of xss) [])
    ∙ same-sums (from_left append-row [] (all_of xss))
    ∙ ap (map row_sum) (rows-listed (all_of xss))
