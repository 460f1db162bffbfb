-- Worked cases: whole inputs, whole outputs and moves.
use Rattle.std.specs.Prelude.{[], ◌∷◌, refl}
use Rattle.stream_tokens.specs.declared.Token.TheVariants.{Item, Empty, Stop, Done}
use Rattle.block_core.specs.Move.{Taking, Putting}
use Rattle.block_core.specs.Kind.{SumScalarKind, SumVectorKind, SumMatrixKind}
use Rattle.block_core.proofs.Works.{Works}

-- one sum over nothing
sumscalar-nothing : Works (SumScalarKind)
    ((Item 0 ∷ Stop 0 ∷ Done ∷ []) ∷ (Stop 1 ∷ Done ∷ []) ∷ [])
    ((Empty ∷ Stop 0 ∷ Done ∷ []) ∷ [])
    (Taking 0 (Item 0) ∷ Taking 1 (Stop 1) ∷ Putting 0 Empty ∷ Taking 0 (Stop 0) ∷ Putting 0 (Stop 0) ∷ Taking 0 Done ∷ Taking 1 Done ∷ Putting 0 Done ∷ [])
sumscalar-nothing = (refl, refl, refl)

-- no sum at all
sumscalar-none : Works (SumScalarKind)
    ((Stop 0 ∷ Done ∷ []) ∷ (Stop 1 ∷ Done ∷ []) ∷ [])
    ((Stop 0 ∷ Done ∷ []) ∷ [])
    (Taking 0 (Stop 0) ∷ Taking 1 (Stop 1) ∷ Putting 0 (Stop 0) ∷ Taking 0 Done ∷ Taking 1 Done ∷ Putting 0 Done ∷ [])
sumscalar-none = (refl, refl, refl)

-- one sum over nothing, below the root
sumscalar-root : Works (SumScalarKind)
    ((Item 0 ∷ Done ∷ []) ∷ (Stop 0 ∷ Done ∷ []) ∷ [])
    ((Empty ∷ Done ∷ []) ∷ [])
    (Taking 0 (Item 0) ∷ Taking 1 (Stop 0) ∷ Putting 0 Empty ∷ Taking 0 Done ∷ Taking 1 Done ∷ Putting 0 Done ∷ [])
sumscalar-root = (refl, refl, refl)

-- a sum that cancels is 0
sumscalar-wraps : Works (SumScalarKind)
    ((Item 0 ∷ Done ∷ []) ∷ (Item 5 ∷ Item 18446744073709551611 ∷ Stop 0 ∷ Done ∷ []) ∷ [])
    ((Item 0 ∷ Done ∷ []) ∷ [])
    (Taking 0 (Item 0) ∷ Taking 1 (Item 5) ∷ Taking 1 (Item 18446744073709551611) ∷ Taking 1 (Stop 0) ∷ Putting 0 (Item 0) ∷ Taking 0 Done ∷ Taking 1 Done ∷ Putting 0 Done ∷ [])
sumscalar-wraps = (refl, refl, refl)

-- empty values, an empty fiber and nested stops
sumscalar-deep : Works (SumScalarKind)
    ((Item 0 ∷ Item 1 ∷ Stop 0 ∷ Stop 0 ∷ Item 2 ∷ Stop 1 ∷ Done ∷ []) ∷ (Item 1 ∷ Empty ∷ Item 2 ∷ Stop 0 ∷ Empty ∷ Stop 1 ∷ Stop 1 ∷ Item 4 ∷ Stop 2 ∷ Done ∷ []) ∷ [])
    ((Item 3 ∷ Empty ∷ Stop 0 ∷ Stop 0 ∷ Item 4 ∷ Stop 1 ∷ Done ∷ []) ∷ [])
    (Taking 0 (Item 0) ∷ Taking 1 (Item 1) ∷ Taking 1 Empty ∷ Taking 1 (Item 2) ∷ Taking 1 (Stop 0) ∷ Putting 0 (Item 3) ∷ Taking 0 (Item 1) ∷ Taking 1 Empty ∷ Taking 1 (Stop 1) ∷ Putting 0 Empty ∷ Taking 0 (Stop 0) ∷ Putting 0 (Stop 0) ∷ Taking 0 (Stop 0) ∷ Taking 1 (Stop 1) ∷ Putting 0 (Stop 0) ∷ Taking 0 (Item 2) ∷ Taking 1 (Item 4) ∷ Taking 1 (Stop 2) ∷ Putting 0 (Item 4) ∷ Taking 0 (Stop 1) ∷ Putting 0 (Stop 1) ∷ Taking 0 Done ∷ Taking 1 Done ∷ Putting 0 Done ∷ [])
sumscalar-deep = (refl, refl, refl)

-- sumvector
sumvector-row : Works (SumVectorKind)
    ((Item 0 ∷ Item 1 ∷ Stop 0 ∷ Item 1 ∷ Stop 1 ∷ Done ∷ []) ∷ (Item 2 ∷ Item 3 ∷ Stop 0 ∷ Item 4 ∷ Stop 1 ∷ Done ∷ []) ∷ [])
    ((Item 0 ∷ Item 1 ∷ Stop 0 ∷ Done ∷ []) ∷ (Item 2 ∷ Item 7 ∷ Stop 0 ∷ Done ∷ []) ∷ [])
    (Taking 0 (Item 0) ∷ Taking 1 (Item 2) ∷ Taking 0 (Item 1) ∷ Taking 1 (Item 3) ∷ Taking 0 (Stop 0) ∷ Taking 1 (Stop 0) ∷ Taking 0 (Item 1) ∷ Taking 1 (Item 4) ∷ Taking 0 (Stop 1) ∷ Taking 1 (Stop 1) ∷ Putting 0 (Item 0) ∷ Putting 1 (Item 2) ∷ Putting 0 (Item 1) ∷ Putting 1 (Item 7) ∷ Putting 0 (Stop 0) ∷ Putting 1 (Stop 0) ∷ Taking 0 Done ∷ Taking 1 Done ∷ Putting 0 Done ∷ Putting 1 Done ∷ [])
sumvector-row = (refl, refl, refl)

-- an empty fiber, empty values and an empty piece
sumvector-deep : Works (SumVectorKind)
    ((Stop 0 ∷ Item 3 ∷ Item 1 ∷ Stop 1 ∷ Item 2 ∷ Item 2 ∷ Stop 2 ∷ Stop 1 ∷ Stop 3 ∷ Done ∷ []) ∷ (Stop 0 ∷ Empty ∷ Item 5 ∷ Stop 1 ∷ Empty ∷ Item 6 ∷ Stop 2 ∷ Stop 1 ∷ Stop 3 ∷ Done ∷ []) ∷ [])
    ((Item 1 ∷ Item 3 ∷ Stop 0 ∷ Item 2 ∷ Stop 1 ∷ Stop 0 ∷ Stop 2 ∷ Done ∷ []) ∷ (Item 5 ∷ Empty ∷ Stop 0 ∷ Item 6 ∷ Stop 1 ∷ Stop 0 ∷ Stop 2 ∷ Done ∷ []) ∷ [])
    (Taking 0 (Stop 0) ∷ Taking 1 (Stop 0) ∷ Taking 0 (Item 3) ∷ Taking 1 Empty ∷ Taking 0 (Item 1) ∷ Taking 1 (Item 5) ∷ Taking 0 (Stop 1) ∷ Taking 1 (Stop 1) ∷ Putting 0 (Item 1) ∷ Putting 1 (Item 5) ∷ Putting 0 (Item 3) ∷ Putting 1 Empty ∷ Putting 0 (Stop 0) ∷ Putting 1 (Stop 0) ∷ Taking 0 (Item 2) ∷ Taking 1 Empty ∷ Taking 0 (Item 2) ∷ Taking 1 (Item 6) ∷ Taking 0 (Stop 2) ∷ Taking 1 (Stop 2) ∷ Putting 0 (Item 2) ∷ Putting 1 (Item 6) ∷ Putting 0 (Stop 1) ∷ Putting 1 (Stop 1) ∷ Taking 0 (Stop 1) ∷ Taking 1 (Stop 1) ∷ Putting 0 (Stop 0) ∷ Putting 1 (Stop 0) ∷ Taking 0 (Stop 3) ∷ Taking 1 (Stop 3) ∷ Putting 0 (Stop 2) ∷ Putting 1 (Stop 2) ∷ Taking 0 Done ∷ Taking 1 Done ∷ Putting 0 Done ∷ Putting 1 Done ∷ [])
sumvector-deep = (refl, refl, refl)

-- nothing to add
sumvector-empty : Works (SumVectorKind)
    ((Stop 1 ∷ Done ∷ []) ∷ (Stop 1 ∷ Done ∷ []) ∷ [])
    ((Stop 0 ∷ Done ∷ []) ∷ (Stop 0 ∷ Done ∷ []) ∷ [])
    (Taking 0 (Stop 1) ∷ Taking 1 (Stop 1) ∷ Putting 0 (Stop 0) ∷ Putting 1 (Stop 0) ∷ Taking 0 Done ∷ Taking 1 Done ∷ Putting 0 Done ∷ Putting 1 Done ∷ [])
sumvector-empty = (refl, refl, refl)

-- summatrix
summatrix-row : Works (SumMatrixKind)
    ((Item 0 ∷ Item 1 ∷ Stop 0 ∷ Item 0 ∷ Stop 1 ∷ Done ∷ []) ∷ (Item 0 ∷ Stop 0 ∷ Item 1 ∷ Stop 1 ∷ Item 0 ∷ Stop 2 ∷ Done ∷ []) ∷ (Item 1 ∷ Stop 0 ∷ Item 2 ∷ Stop 1 ∷ Item 3 ∷ Stop 2 ∷ Done ∷ []) ∷ [])
    ((Item 0 ∷ Item 1 ∷ Stop 0 ∷ Done ∷ []) ∷ (Item 0 ∷ Stop 0 ∷ Item 1 ∷ Stop 1 ∷ Done ∷ []) ∷ (Item 4 ∷ Stop 0 ∷ Item 2 ∷ Stop 1 ∷ Done ∷ []) ∷ [])
    (Taking 0 (Item 0) ∷ Taking 1 (Item 0) ∷ Taking 2 (Item 1) ∷ Taking 1 (Stop 0) ∷ Taking 2 (Stop 0) ∷ Taking 0 (Item 1) ∷ Taking 1 (Item 1) ∷ Taking 2 (Item 2) ∷ Taking 1 (Stop 1) ∷ Taking 2 (Stop 1) ∷ Taking 0 (Stop 0) ∷ Taking 0 (Item 0) ∷ Taking 1 (Item 0) ∷ Taking 2 (Item 3) ∷ Taking 1 (Stop 2) ∷ Taking 2 (Stop 2) ∷ Taking 0 (Stop 1) ∷ Putting 0 (Item 0) ∷ Putting 1 (Item 0) ∷ Putting 2 (Item 4) ∷ Putting 1 (Stop 0) ∷ Putting 2 (Stop 0) ∷ Putting 0 (Item 1) ∷ Putting 1 (Item 1) ∷ Putting 2 (Item 2) ∷ Putting 0 (Stop 0) ∷ Putting 1 (Stop 1) ∷ Putting 2 (Stop 1) ∷ Taking 0 Done ∷ Taking 1 Done ∷ Taking 2 Done ∷ Putting 0 Done ∷ Putting 1 Done ∷ Putting 2 Done ∷ [])
summatrix-row = (refl, refl, refl)

-- a row without entries, an empty outer fiber and an empty piece
summatrix-deep : Works (SumMatrixKind)
    ((Item 2 ∷ Stop 0 ∷ Item 2 ∷ Item 0 ∷ Stop 1 ∷ Stop 0 ∷ Stop 2 ∷ Done ∷ []) ∷ (Item 3 ∷ Stop 1 ∷ Item 1 ∷ Item 3 ∷ Stop 0 ∷ Stop 2 ∷ Stop 1 ∷ Stop 3 ∷ Done ∷ []) ∷ (Empty ∷ Stop 1 ∷ Item 1 ∷ Item 4 ∷ Stop 0 ∷ Stop 2 ∷ Stop 1 ∷ Stop 3 ∷ Done ∷ []) ∷ [])
    ((Item 0 ∷ Item 2 ∷ Stop 0 ∷ Stop 1 ∷ Done ∷ []) ∷ (Stop 0 ∷ Item 1 ∷ Item 3 ∷ Stop 1 ∷ Stop 2 ∷ Done ∷ []) ∷ (Stop 0 ∷ Item 1 ∷ Item 4 ∷ Stop 1 ∷ Stop 2 ∷ Done ∷ []) ∷ [])
    (Taking 0 (Item 2) ∷ Taking 1 (Item 3) ∷ Taking 2 Empty ∷ Taking 1 (Stop 1) ∷ Taking 2 (Stop 1) ∷ Taking 0 (Stop 0) ∷ Taking 0 (Item 2) ∷ Taking 1 (Item 1) ∷ Taking 2 (Item 1) ∷ Taking 1 (Item 3) ∷ Taking 2 (Item 4) ∷ Taking 1 (Stop 0) ∷ Taking 2 (Stop 0) ∷ Taking 0 (Item 0) ∷ Taking 1 (Stop 2) ∷ Taking 2 (Stop 2) ∷ Taking 0 (Stop 1) ∷ Putting 0 (Item 0) ∷ Putting 1 (Stop 0) ∷ Putting 2 (Stop 0) ∷ Putting 0 (Item 2) ∷ Putting 1 (Item 1) ∷ Putting 2 (Item 1) ∷ Putting 1 (Item 3) ∷ Putting 2 (Item 4) ∷ Putting 0 (Stop 0) ∷ Putting 1 (Stop 1) ∷ Putting 2 (Stop 1) ∷ Taking 0 (Stop 0) ∷ Taking 1 (Stop 1) ∷ Taking 2 (Stop 1) ∷ Taking 0 (Stop 2) ∷ Taking 1 (Stop 3) ∷ Taking 2 (Stop 3) ∷ Putting 0 (Stop 1) ∷ Putting 1 (Stop 2) ∷ Putting 2 (Stop 2) ∷ Taking 0 Done ∷ Taking 1 Done ∷ Taking 2 Done ∷ Putting 0 Done ∷ Putting 1 Done ∷ Putting 2 Done ∷ [])
summatrix-deep = (refl, refl, refl)

-- nothing to add
summatrix-empty : Works (SumMatrixKind)
    ((Stop 1 ∷ Done ∷ []) ∷ (Stop 2 ∷ Done ∷ []) ∷ (Stop 2 ∷ Done ∷ []) ∷ [])
    ((Stop 0 ∷ Done ∷ []) ∷ (Stop 1 ∷ Done ∷ []) ∷ (Stop 1 ∷ Done ∷ []) ∷ [])
    (Taking 0 (Stop 1) ∷ Taking 1 (Stop 2) ∷ Taking 2 (Stop 2) ∷ Putting 0 (Stop 0) ∷ Putting 1 (Stop 1) ∷ Putting 2 (Stop 1) ∷ Taking 0 Done ∷ Taking 1 Done ∷ Taking 2 Done ∷ Putting 0 Done ∷ Putting 1 Done ∷ Putting 2 Done ∷ [])
summatrix-empty = (refl, refl, refl)
