-- The moves of sumvector and summatrix flow.
use Rattle.std.specs.Prelude.{ℕ, suc, List, [], ◌∷◌, ◌++◌, refl}
use mathlib.Core.List.{map}
use Rattle.std.proofs.Common.{sym, subst}
use Rattle.stream_tokens.specs.declared.Token.{Token}
use Rattle.stream_tokens.specs.declared.Token.TheVariants.{Stop}
use Rattle.stream_tokens.specs.Nest.{Leaf, Fiber, spread, beneath}
use Rattle.stream_tokens.specs.Flat.{fiber_tokens, flat}
use Rattle.stream_tokens.specs.Shapes.{Positive, under, on_fibers}
use Rattle.block_core.specs.Move.{Move}
use Rattle.block_core.specs.Ports.{first_item, second_leaf, second, same}
use Rattle.block_core.specs.SumVector.{vector_sum, take_pairs, put_pairs, piece_takes, sumvector_moves, sumvector_inputs, sumvector_outputs}
use Rattle.block_core.specs.SumMatrix.{MatrixRow, matrix_sum, take_inner, row_takes, outer_takes, matrix_takes, put_inner, row_puts, flush_moves, summatrix_moves, summatrix_inputs, summatrix_outputs}
use Rattle.block_core.specs.Flows.{Flows}

-- ---- sumvector

pairs-taken : (ps : List (ℕ × Leaf)) (rest : List Move) (a b o q : List Token) → Flows rest (a ∷ b ∷ []) (o ∷ q ∷ [])
    → Flows (take_pairs ps rest) (fiber_tokens first_item ps a ∷ fiber_tokens second_leaf ps b ∷ []) (o ∷ q ∷ [])
pairs-taken [] rest a b o q h = h
pairs-taken (p ∷ ps) rest a b o q h = (refl, (refl, pairs-taken ps rest a b o q h))

pairs-put : (ps : List (ℕ × Leaf)) (rest : List Move) (a b o q : List Token) → Flows rest (a ∷ b ∷ []) (o ∷ q ∷ [])
    → Flows (put_pairs ps rest) (a ∷ b ∷ []) (fiber_tokens first_item ps o ∷ fiber_tokens second_leaf ps q ∷ [])
pairs-put [] rest a b o q h = h
pairs-put (p ∷ ps) rest a b o q h = (refl, (refl, pairs-put ps rest a b o q h))

piece-taken : (n : ℕ) (x : List (ℕ × Leaf)) (xs : List (List (ℕ × Leaf))) (rest : List Move) (u : List (Fiber (ℕ × Leaf))) (o q : List Token)
    → Flows rest (flat first_item u ∷ flat second_leaf u ∷ []) (o ∷ q ∷ [])
    → Flows (piece_takes n (x ∷ xs) rest)
    (flat first_item (spread x (map same xs) n ++ u) ∷ flat second_leaf (spread x (map same xs) n ++ u) ∷ []) (o ∷ q ∷ [])
piece-taken n x [] rest u o q h = pairs-taken x _ _ _ _ _ (refl, (refl, h))
piece-taken n x (y ∷ xs) rest u o q h = pairs-taken x _ _ _ _ _ (refl, (refl, piece-taken n y xs rest u o q h))

-- a piece that ends with the stop n, and what is put for it
piece-flows : (n : ℕ) (xss : List (List (ℕ × Leaf))) (rest : List Move) (u : List (Fiber (ℕ × Leaf))) (o q : List Token)
    → Flows rest (flat first_item u ∷ flat second_leaf u ∷ []) (o ∷ q ∷ [])
    → Flows (piece_takes n xss rest)
    (flat first_item (beneath (map same xss, n) ++ u) ∷ flat second_leaf (beneath (map same xss, n) ++ u) ∷ []) (o ∷ q ∷ [])
piece-flows n [] rest u o q h = (refl, (refl, h))
piece-flows n (x ∷ xs) rest u o q h = piece-taken n x xs rest u o q h

pub sumvector-flows : (j : List (Fiber (List (ℕ × Leaf)))) → Positive j → Flows (sumvector_moves j) (sumvector_inputs j) (sumvector_outputs j)
sumvector-flows [] w = (refl, (refl, (refl, (refl, (tt, tt)))))
sumvector-flows ((xss, n) ∷ fs) w =
    let k = w.0.0 in
    let h : Flows (sumvector_moves ((xss, suc k) ∷ fs)) (sumvector_inputs ((xss, suc k) ∷ fs)) (sumvector_outputs ((xss, suc k) ∷ fs)) =
    piece-flows (suc k) xss _ (under same fs) _ _ (pairs-put (vector_sum xss) _ _ _ _ _ (refl, (refl, sumvector-flows fs w.1))) in
    subst (λ (x : ℕ). Flows (sumvector_moves ((xss, x) ∷ fs)) (sumvector_inputs ((xss, x) ∷ fs)) (sumvector_outputs ((xss, x) ∷ fs))) (sym w.0.1) h

-- ---- summatrix

inner-taken : (ps : List (ℕ × Leaf)) (rest : List Move) (a b c o q r : List Token) → Flows rest (a ∷ b ∷ c ∷ []) (o ∷ q ∷ r ∷ [])
    → Flows (take_inner ps rest) (a ∷ fiber_tokens first_item ps b ∷ fiber_tokens second_leaf ps c ∷ []) (o ∷ q ∷ r ∷ [])
inner-taken [] rest a b c o q r h = h
inner-taken (p ∷ ps) rest a b c o q r h = (refl, (refl, inner-taken ps rest a b c o q r h))

inner-put : (ps : List (ℕ × Leaf)) (rest : List Move) (a b c o q r : List Token) → Flows rest (a ∷ b ∷ c ∷ []) (o ∷ q ∷ r ∷ [])
    → Flows (put_inner ps rest) (a ∷ b ∷ c ∷ []) (o ∷ fiber_tokens first_item ps q ∷ fiber_tokens second_leaf ps r ∷ [])
inner-put [] rest a b c o q r h = h
inner-put (p ∷ ps) rest a b c o q r h = (refl, (refl, inner-put ps rest a b c o q r h))

-- an outer fiber that ends with the stop s; u lies beneath what follows it
row-taken : (s : ℕ) (m : MatrixRow) (ms : List MatrixRow) (rest : List Move) (a : List Token) (u : List (Fiber (ℕ × Leaf))) (o q r : List Token)
    → Flows rest (a ∷ flat first_item u ∷ flat second_leaf u ∷ []) (o ∷ q ∷ r ∷ [])
    → Flows (row_takes s m ms rest)
    (fiber_tokens first_item (m ∷ ms) (Stop s ∷ a) ∷ flat first_item (spread (second m) (map second ms) (suc s) ++ u)
    ∷ flat second_leaf (spread (second m) (map second ms) (suc s) ++ u) ∷ []) (o ∷ q ∷ r ∷ [])
row-taken s m [] rest a u o q r h = (refl, inner-taken m.1 _ _ _ _ _ _ _ (refl, (refl, (refl, h))))
row-taken s m (m' ∷ ms) rest a u o q r h = (refl, inner-taken m.1 _ _ _ _ _ _ _ (refl, (refl, row-taken s m' ms rest a u o q r h)))

outer-taken : (s : ℕ) (ms : List MatrixRow) (rest : List Move) (a : List Token) (u : List (Fiber (ℕ × Leaf))) (o q r : List Token)
    → Flows rest (a ∷ flat first_item u ∷ flat second_leaf u ∷ []) (o ∷ q ∷ r ∷ [])
    → Flows (outer_takes s ms rest)
    (fiber_tokens first_item ms (Stop s ∷ a) ∷ flat first_item (beneath (map second ms, suc s) ++ u)
    ∷ flat second_leaf (beneath (map second ms, suc s) ++ u) ∷ []) (o ∷ q ∷ r ∷ [])
outer-taken s [] rest a u o q r h = (refl, (refl, (refl, h)))
outer-taken s (m ∷ ms) rest a u o q r h = row-taken s m ms rest a u o q r h

matrix-taken : (n : ℕ) (x : List MatrixRow) (xs : List (List MatrixRow)) (rest : List Move) (v : List (Fiber MatrixRow)) (o q r : List Token)
    → Flows rest (flat first_item v ∷ flat first_item (under second v) ∷ flat second_leaf (under second v) ∷ []) (o ∷ q ∷ r ∷ [])
    → Flows (matrix_takes n (x ∷ xs) rest)
    (flat first_item (spread x (map same xs) n ++ v) ∷ flat first_item (under second (spread x (map same xs) n ++ v))
    ∷ flat second_leaf (under second (spread x (map same xs) n ++ v)) ∷ []) (o ∷ q ∷ r ∷ [])
matrix-taken n x [] rest v o q r h = outer-taken n x rest _ (under second v) o q r h
matrix-taken n x (y ∷ xs) rest v o q r h = outer-taken 0 x _ _ (under second (spread y (map same xs) n ++ v)) o q r (matrix-taken n y xs rest v o q r h)

matrix-flows : (n : ℕ) (xss : List (List MatrixRow)) (rest : List Move) (v : List (Fiber MatrixRow)) (o q r : List Token)
    → Flows rest (flat first_item v ∷ flat first_item (under second v) ∷ flat second_leaf (under second v) ∷ []) (o ∷ q ∷ r ∷ [])
    → Flows (matrix_takes n xss rest)
    (flat first_item (beneath (map same xss, n) ++ v) ∷ flat first_item (under second (beneath (map same xss, n) ++ v))
    ∷ flat second_leaf (under second (beneath (map same xss, n) ++ v)) ∷ []) (o ∷ q ∷ r ∷ [])
matrix-flows n [] rest v o q r h = (refl, (refl, (refl, h)))
matrix-flows n (x ∷ xs) rest v o q r h = matrix-taken n x xs rest v o q r h

rows-put : (k : ℕ) (g : MatrixRow) (gs : List MatrixRow) (rest : List Move) (a b c o : List Token) (u : List (Fiber (ℕ × Leaf)))
    → Flows rest (a ∷ b ∷ c ∷ []) (o ∷ (Stop k ∷ flat first_item u) ∷ (Stop k ∷ flat second_leaf u) ∷ [])
    → Flows (row_puts g gs rest) (a ∷ b ∷ c ∷ [])
    (fiber_tokens first_item (g ∷ gs) o ∷ flat first_item (spread (second g) (map second gs) k ++ u)
    ∷ flat second_leaf (spread (second g) (map second gs) k ++ u) ∷ [])
rows-put k g [] rest a b c o u h = (refl, inner-put g.1 _ _ _ _ _ _ _ h)
rows-put k g (g' ∷ gs) rest a b c o u h = (refl, inner-put g.1 _ _ _ _ _ _ _ (refl, (refl, rows-put k g' gs rest a b c o u h)))

flush-flows : (k : ℕ) (gs : List MatrixRow) (rest : List Move) (a b c o : List Token) (u : List (Fiber (ℕ × Leaf)))
    → Flows rest (a ∷ b ∷ c ∷ []) (o ∷ flat first_item u ∷ flat second_leaf u ∷ [])
    → Flows (flush_moves (suc k) gs rest) (a ∷ b ∷ c ∷ [])
    (fiber_tokens first_item gs (Stop k ∷ o) ∷ flat first_item (beneath (map second gs, suc k) ++ u)
    ∷ flat second_leaf (beneath (map second gs, suc k) ++ u) ∷ [])
flush-flows k [] rest a b c o u h = (refl, (refl, (refl, h)))
flush-flows k (g ∷ gs) rest a b c o u h = rows-put (suc k) g gs _ a b c (Stop k ∷ o) u (refl, (refl, (refl, h)))

pub summatrix-flows : (j : List (Fiber (List MatrixRow))) → Positive j → Flows (summatrix_moves j) (summatrix_inputs j) (summatrix_outputs j)
summatrix-flows [] w = (refl, (refl, (refl, (refl, (refl, (refl, (tt, tt)))))))
summatrix-flows ((xss, n) ∷ fs) w =
    let k = w.0.0 in
    let h : Flows (summatrix_moves ((xss, suc k) ∷ fs)) (summatrix_inputs ((xss, suc k) ∷ fs)) (summatrix_outputs ((xss, suc k) ∷ fs)) =
    matrix-flows (suc k) xss _ (under same fs) _ _ _
    (flush-flows k (matrix_sum xss) _ _ _ _ _ (under second (on_fibers matrix_sum fs)) (summatrix-flows fs w.1)) in
    subst (λ (x : ℕ). Flows (summatrix_moves ((xss, x) ∷ fs)) (summatrix_inputs ((xss, x) ∷ fs)) (summatrix_outputs ((xss, x) ∷ fs))) (sym w.0.1) h
