-- A new matrix reducer makes the moves of its kind.
use Rattle.std.proofs.Common.{◌≡◌, ℕ, zero, suc, List, [], ◌∷◌, Some, None, refl, sym, subst}
use Rattle.stream_tokens.specs.declared.Token.TheVariants.{Item, Stop}
use Rattle.stream_tokens.specs.Nest.{Leaf, Fiber}
use Rattle.stream_tokens.specs.Shapes.{Positive}
use Rattle.block_core.specs.Move.{Move, Taking}
use Rattle.block_core.specs.SumMatrix.{MatrixRow, MatrixPiece, take_inner, take_under, row_takes, outer_takes, matrix_takes, put_inner, row_puts, flush_moves, matrix_sum, summatrix_moves}
use Rattle.block_core.specs.Ports.{Streams}
use Rattle.block_core.specs.Kind.{SumMatrixKind, Fits, reading}
use Rattle.block_core.specs.Runs.{Runs}
use Rattle.block_core.specs.Stands.{Stands}
use Rattle.block_core.proofs.Standing.{stands-start}
use Rattle.space_reducer.specs.declared.matrix.Stops.{Stops}
use Rattle.space_reducer.specs.declared.matrix.MatrixPhase.TheVariants.{Outer, Inner, PutOuter}
use Rattle.space_reducer.specs.MatrixSteps.{MatrixState, matrix_state, behind_row, stop_ended, pair_put, matrix_steps}
use Rattle.space_reducer.proofs.Ordered.{KeysAscend, ascends-change, replace-changes}
use Rattle.space_reducer.proofs.Folds.{from_left, add_pair}
use Rattle.space_reducer.proofs.MatrixFold.{add_pairs, add_row, ascends-rows, rows-gather}

-- a reducer that keeps these rows, between rows
abbrev keeping : List MatrixRow → MatrixState
keeping rows = matrix_state Outer rows [] [] []

-- one that takes a row of this outer coordinate
abbrev within : ℕ → List MatrixRow → List (ℕ × Leaf) → MatrixState
within a rows row = matrix_state (Inner a) rows row [] []

inner-run : (ps row : List (ℕ × Leaf)) (a : ℕ) (rows : List MatrixRow) (rest : List Move)
    → Runs matrix_steps (within a rows (from_left add_pair row ps)) rest → Runs matrix_steps (within a rows row) (take_inner ps rest)
inner-run [] row a rows rest h = h
inner-run ((c, Some v) ∷ ps) row a rows rest h = (refl, (refl, inner-run ps (add_pair (c, Some v) row) a rows rest h))
inner-run ((c, None) ∷ ps) row a rows rest h = (refl, (refl, inner-run ps (add_pair (c, None) row) a rows rest h))

row-run : (m : MatrixRow) (n : ℕ) (rows : List MatrixRow) (rest : List Move) → KeysAscend rows
    → Runs matrix_steps (matrix_state (behind_row n) (add_row m rows) [] [] []) rest
    → Runs matrix_steps (keeping rows) (Taking 0 (Item m.0) ∷ take_inner m.1 (take_under (Stop n) rest))
row-run m n rows rest o h =
    let P : List MatrixRow → Type 0 = λ xs. Runs matrix_steps (matrix_state (behind_row n) xs [] [] []) rest in
    (refl, inner-run m.1 _ m.0 _ _ (refl, (refl, subst P (sym (replace-changes [] (add_pairs m.1) m.0 rows o)) h)))

rows-run : (s : ℕ) (m : MatrixRow) (ms rows : List MatrixRow) (rest : List Move) → KeysAscend rows
    → Runs matrix_steps (stop_ended s (keeping (from_left add_row rows (m ∷ ms)))) rest
    → Runs matrix_steps (keeping rows) (row_takes s m ms rest)
rows-run zero m [] rows rest o h = row-run m 1 rows _ o (refl, h)
rows-run (suc k) m [] rows rest o h = row-run m (suc (suc k)) rows _ o (refl, h)
rows-run s m (m' ∷ ms) rows rest o h =
    row-run m 0 rows _ o (rows-run s m' ms (add_row m rows) rest (ascends-change [] (add_pairs m.1) m.0 rows o) h)

outer-run : (s : ℕ) (ms rows : List MatrixRow) (rest : List Move) → KeysAscend rows
    → Runs matrix_steps (stop_ended s (keeping (from_left add_row rows ms))) rest
    → Runs matrix_steps (keeping rows) (outer_takes s ms rest)
outer-run zero [] rows rest o h = (refl, (refl, (refl, h)))
outer-run (suc k) [] rows rest o h = (refl, (refl, (refl, h)))
outer-run s (m ∷ ms) rows rest o h = rows-run s m ms rows rest o h

abbrev add_rows : List MatrixRow → List MatrixRow → List MatrixRow
add_rows ms rows = from_left add_row rows ms

piece-run : (n : ℕ) (xss : MatrixPiece) (rows : List MatrixRow) (rest : List Move) → KeysAscend rows
    → Runs matrix_steps (stop_ended n (keeping (from_left add_rows rows xss))) rest
    → Runs matrix_steps (keeping rows) (matrix_takes n xss rest)
piece-run n [] rows rest o h = outer-run n [] rows rest o h
piece-run n (x ∷ []) rows rest o h = outer-run n x rows rest o h
piece-run n (x ∷ y ∷ xs) rows rest o h =
    outer-run 0 x rows _ o (piece-run n (y ∷ xs) (add_rows x rows) rest (ascends-rows x rows o) h)

-- a reducer that puts: these rows and the pairs of the row before them are left
abbrev putting : Stops → List MatrixRow → List (ℕ × Leaf) → MatrixState
putting stops gs ps = pair_put stops ps gs [] []

inner-puts-run : (stops : Stops) (gs : List MatrixRow) (ps : List (ℕ × Leaf)) (rest : List Move)
    → Runs matrix_steps (putting stops gs []) rest → Runs matrix_steps (putting stops gs ps) (put_inner ps rest)
inner-puts-run stops gs [] rest h = h
inner-puts-run stops gs (p ∷ ps) rest h = (refl, (refl, inner-puts-run stops gs ps rest h))

row_puts-run : (stops : Stops) (g : MatrixRow) (gs : List MatrixRow) (rest : List Move)
    → Runs matrix_steps (putting stops [] []) rest
    → Runs matrix_steps (matrix_state (PutOuter g.0 stops) [] [] gs g.1) (row_puts g gs rest)
row_puts-run stops g [] rest h = (refl, inner-puts-run stops [] g.1 _ h)
row_puts-run stops g (g' ∷ gs) rest h = (refl, inner-puts-run stops (g' ∷ gs) g.1 _ (refl, (refl, row_puts-run stops g' gs rest h)))

flush-run : (k : ℕ) (gs : List MatrixRow) (rest : List Move) → Runs matrix_steps (keeping []) rest
    → Runs matrix_steps (stop_ended (suc k) (keeping gs)) (flush_moves (suc k) gs rest)
flush-run k [] rest h = (refl, (refl, (refl, h)))
flush-run k (g ∷ gs) rest h = row_puts-run (record { outer = k; inner = suc k }) g gs _ (refl, (refl, (refl, h)))

whole-piece-run : (k : ℕ) (xss : MatrixPiece) (rest : List Move) → Runs matrix_steps (keeping []) rest
    → Runs matrix_steps (keeping []) (matrix_takes (suc k) xss (flush_moves (suc k) (matrix_sum xss) rest))
whole-piece-run k xss rest h =
    let P : List MatrixRow → Type 0 = λ gs. Runs matrix_steps (stop_ended (suc k) (keeping gs)) (flush_moves (suc k) (matrix_sum xss) rest) in
    piece-run (suc k) xss [] _ tt (subst P (sym (rows-gather xss)) (flush-run k (matrix_sum xss) rest h))

matrix-run : (fs : List (Fiber (List MatrixRow))) → Positive fs → Runs matrix_steps (keeping []) (summatrix_moves fs)
matrix-run [] w = (refl, (refl, (refl, (refl, (refl, (refl, refl))))))
matrix-run ((xss, n) ∷ fs) w =
    let P : ℕ → Type 0 = λ n. Runs matrix_steps (keeping []) (matrix_takes n xss (flush_moves n (matrix_sum xss) (summatrix_moves fs))) in
    subst P (sym w.0.1) (whole-piece-run w.0.0 xss (summatrix_moves fs) (matrix-run fs w.1))

pub matrix-starts : (s : MatrixState) → s ≡ keeping [] → (ins : Streams) → Fits SumMatrixKind ins → Stands (Runs matrix_steps s) SumMatrixKind ins 0
matrix-starts s e ins f =
    let P : MatrixState → Type 0 = λ x. Stands (Runs matrix_steps x) SumMatrixKind ins 0 in
    subst P (sym e) (stands-start matrix_steps (keeping []) SumMatrixKind ins f (matrix-run (reading SumMatrixKind ins) f.well))
