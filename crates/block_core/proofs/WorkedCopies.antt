-- Worked cases: whole inputs, whole outputs and moves.
use Rattle.std.specs.Prelude.{[], ◌∷◌, refl}
use Rattle.stream_tokens.specs.declared.Token.TheVariants.{Item, Empty, Stop, Done}
use Rattle.block_core.specs.Move.{Taking, Putting}
use Rattle.block_core.specs.Kind.{RootKind, ScanKind, RepeatKind, CastKind, DrainKind, ArrayKind, ConstKind}
use Rattle.block_core.proofs.Works.{Works}

-- root
root : Works (RootKind)
    ([])
    ((Item 0 ∷ Done ∷ []) ∷ [])
    (Putting 0 (Item 0) ∷ Putting 0 Done ∷ [])
root = (refl, refl, refl)

-- scan of a level below the root
scan-outer : Works (ScanKind (((0, 0) ∷ (1, 1) ∷ (3, 2) ∷ []) ∷ []))
    ((Item 0 ∷ Done ∷ []) ∷ [])
    ((Item 0 ∷ Item 1 ∷ Item 3 ∷ Stop 0 ∷ Done ∷ []) ∷ (Item 0 ∷ Item 1 ∷ Item 2 ∷ Stop 0 ∷ Done ∷ []) ∷ [])
    (Taking 0 (Item 0) ∷ Putting 0 (Item 0) ∷ Putting 1 (Item 0) ∷ Putting 0 (Item 1) ∷ Putting 1 (Item 1) ∷ Putting 0 (Item 3) ∷ Putting 1 (Item 2) ∷ Taking 0 Done ∷ Putting 0 (Stop 0) ∷ Putting 1 (Stop 0) ∷ Putting 0 Done ∷ Putting 1 Done ∷ [])
scan-outer = (refl, refl, refl)

-- scan of a level below another
scan-inner : Works (ScanKind (((1, 0) ∷ []) ∷ ((0, 1) ∷ (2, 2) ∷ []) ∷ ((1, 3) ∷ (3, 4) ∷ []) ∷ []))
    ((Item 0 ∷ Item 1 ∷ Item 2 ∷ Stop 0 ∷ Done ∷ []) ∷ [])
    ((Item 1 ∷ Stop 0 ∷ Item 0 ∷ Item 2 ∷ Stop 0 ∷ Item 1 ∷ Item 3 ∷ Stop 1 ∷ Done ∷ []) ∷ (Item 0 ∷ Stop 0 ∷ Item 1 ∷ Item 2 ∷ Stop 0 ∷ Item 3 ∷ Item 4 ∷ Stop 1 ∷ Done ∷ []) ∷ [])
    (Taking 0 (Item 0) ∷ Putting 0 (Item 1) ∷ Putting 1 (Item 0) ∷ Taking 0 (Item 1) ∷ Putting 0 (Stop 0) ∷ Putting 1 (Stop 0) ∷ Putting 0 (Item 0) ∷ Putting 1 (Item 1) ∷ Putting 0 (Item 2) ∷ Putting 1 (Item 2) ∷ Taking 0 (Item 2) ∷ Putting 0 (Stop 0) ∷ Putting 1 (Stop 0) ∷ Putting 0 (Item 1) ∷ Putting 1 (Item 3) ∷ Putting 0 (Item 3) ∷ Putting 1 (Item 4) ∷ Taking 0 (Stop 0) ∷ Putting 0 (Stop 1) ∷ Putting 1 (Stop 1) ∷ Taking 0 Done ∷ Putting 0 Done ∷ Putting 1 Done ∷ [])
scan-inner = (refl, refl, refl)

-- a reference that is empty has nothing beneath it
scan-empty-reference : Works (ScanKind (((1, 0) ∷ []) ∷ ((0, 1) ∷ (2, 2) ∷ []) ∷ ((1, 3) ∷ (3, 4) ∷ []) ∷ []))
    ((Empty ∷ Stop 0 ∷ Done ∷ []) ∷ [])
    ((Stop 1 ∷ Done ∷ []) ∷ (Stop 1 ∷ Done ∷ []) ∷ [])
    (Taking 0 Empty ∷ Taking 0 (Stop 0) ∷ Putting 0 (Stop 1) ∷ Putting 1 (Stop 1) ∷ Taking 0 Done ∷ Putting 0 Done ∷ Putting 1 Done ∷ [])
scan-empty-reference = (refl, refl, refl)

-- no reference at all
scan-empty-fiber : Works (ScanKind (((1, 0) ∷ []) ∷ ((0, 1) ∷ (2, 2) ∷ []) ∷ ((1, 3) ∷ (3, 4) ∷ []) ∷ []))
    ((Stop 0 ∷ Done ∷ []) ∷ [])
    ((Stop 1 ∷ Done ∷ []) ∷ (Stop 1 ∷ Done ∷ []) ∷ [])
    (Taking 0 (Stop 0) ∷ Putting 0 (Stop 1) ∷ Putting 1 (Stop 1) ∷ Taking 0 Done ∷ Putting 0 Done ∷ Putting 1 Done ∷ [])
scan-empty-fiber = (refl, refl, refl)

-- an empty reference, a reference without children, and nested stops
scan-deep : Works (ScanKind (((5, 9) ∷ []) ∷ ([]) ∷ ((1, 3) ∷ (3, 4) ∷ []) ∷ []))
    ((Item 0 ∷ Empty ∷ Stop 0 ∷ Item 1 ∷ Item 2 ∷ Stop 1 ∷ Stop 0 ∷ Item 0 ∷ Stop 2 ∷ Done ∷ []) ∷ [])
    ((Item 5 ∷ Stop 0 ∷ Stop 1 ∷ Stop 0 ∷ Item 1 ∷ Item 3 ∷ Stop 2 ∷ Stop 1 ∷ Item 5 ∷ Stop 3 ∷ Done ∷ []) ∷ (Item 9 ∷ Stop 0 ∷ Stop 1 ∷ Stop 0 ∷ Item 3 ∷ Item 4 ∷ Stop 2 ∷ Stop 1 ∷ Item 9 ∷ Stop 3 ∷ Done ∷ []) ∷ [])
    (Taking 0 (Item 0) ∷ Putting 0 (Item 5) ∷ Putting 1 (Item 9) ∷ Taking 0 Empty ∷ Putting 0 (Stop 0) ∷ Putting 1 (Stop 0) ∷ Taking 0 (Stop 0) ∷ Putting 0 (Stop 1) ∷ Putting 1 (Stop 1) ∷ Taking 0 (Item 1) ∷ Taking 0 (Item 2) ∷ Putting 0 (Stop 0) ∷ Putting 1 (Stop 0) ∷ Putting 0 (Item 1) ∷ Putting 1 (Item 3) ∷ Putting 0 (Item 3) ∷ Putting 1 (Item 4) ∷ Taking 0 (Stop 1) ∷ Putting 0 (Stop 2) ∷ Putting 1 (Stop 2) ∷ Taking 0 (Stop 0) ∷ Putting 0 (Stop 1) ∷ Putting 1 (Stop 1) ∷ Taking 0 (Item 0) ∷ Putting 0 (Item 5) ∷ Putting 1 (Item 9) ∷ Taking 0 (Stop 2) ∷ Putting 0 (Stop 3) ∷ Putting 1 (Stop 3) ∷ Taking 0 Done ∷ Putting 0 Done ∷ Putting 1 Done ∷ [])
scan-deep = (refl, refl, refl)

-- repeat
repeat-row : Works (RepeatKind)
    ((Item 0 ∷ Item 2 ∷ Stop 0 ∷ Item 1 ∷ Stop 1 ∷ Done ∷ []) ∷ (Item 5 ∷ Empty ∷ Stop 0 ∷ Done ∷ []) ∷ [])
    ((Item 5 ∷ Item 5 ∷ Stop 0 ∷ Empty ∷ Stop 1 ∷ Done ∷ []) ∷ [])
    (Taking 1 (Item 5) ∷ Taking 0 (Item 0) ∷ Putting 0 (Item 5) ∷ Taking 0 (Item 2) ∷ Putting 0 (Item 5) ∷ Taking 0 (Stop 0) ∷ Putting 0 (Stop 0) ∷ Taking 1 Empty ∷ Taking 0 (Item 1) ∷ Putting 0 Empty ∷ Taking 0 (Stop 1) ∷ Putting 0 (Stop 1) ∷ Taking 1 (Stop 0) ∷ Taking 1 Done ∷ Taking 0 Done ∷ Putting 0 Done ∷ [])
repeat-row = (refl, refl, refl)

-- repeat of a stream of depth 0
repeat-root : Works (RepeatKind)
    ((Item 0 ∷ Item 2 ∷ Stop 0 ∷ Done ∷ []) ∷ (Item 7 ∷ Done ∷ []) ∷ [])
    ((Item 7 ∷ Item 7 ∷ Stop 0 ∷ Done ∷ []) ∷ [])
    (Taking 1 (Item 7) ∷ Taking 0 (Item 0) ∷ Putting 0 (Item 7) ∷ Taking 0 (Item 2) ∷ Putting 0 (Item 7) ∷ Taking 0 (Stop 0) ∷ Putting 0 (Stop 0) ∷ Taking 1 Done ∷ Taking 0 Done ∷ Putting 0 Done ∷ [])
repeat-root = (refl, refl, refl)

-- nothing to repeat
repeat-empty : Works (RepeatKind)
    ((Stop 1 ∷ Done ∷ []) ∷ (Stop 0 ∷ Done ∷ []) ∷ [])
    ((Stop 1 ∷ Done ∷ []) ∷ [])
    (Taking 1 (Stop 0) ∷ Taking 0 (Stop 1) ∷ Putting 0 (Stop 1) ∷ Taking 1 Done ∷ Taking 0 Done ∷ Putting 0 Done ∷ [])
repeat-empty = (refl, refl, refl)

-- empty fibers in both streams
repeat-deep : Works (RepeatKind)
    ((Stop 0 ∷ Item 1 ∷ Stop 1 ∷ Stop 1 ∷ Item 2 ∷ Stop 0 ∷ Stop 2 ∷ Done ∷ []) ∷ (Item 4 ∷ Item 5 ∷ Stop 0 ∷ Stop 0 ∷ Empty ∷ Item 6 ∷ Stop 1 ∷ Done ∷ []) ∷ [])
    ((Stop 0 ∷ Item 5 ∷ Stop 1 ∷ Stop 1 ∷ Empty ∷ Stop 0 ∷ Stop 2 ∷ Done ∷ []) ∷ [])
    (Taking 1 (Item 4) ∷ Taking 0 (Stop 0) ∷ Putting 0 (Stop 0) ∷ Taking 1 (Item 5) ∷ Taking 0 (Item 1) ∷ Putting 0 (Item 5) ∷ Taking 0 (Stop 1) ∷ Putting 0 (Stop 1) ∷ Taking 1 (Stop 0) ∷ Taking 1 (Stop 0) ∷ Taking 0 (Stop 1) ∷ Putting 0 (Stop 1) ∷ Taking 1 Empty ∷ Taking 0 (Item 2) ∷ Putting 0 Empty ∷ Taking 0 (Stop 0) ∷ Putting 0 (Stop 0) ∷ Taking 1 (Item 6) ∷ Taking 0 (Stop 2) ∷ Putting 0 (Stop 2) ∷ Taking 1 (Stop 1) ∷ Taking 1 Done ∷ Taking 0 Done ∷ Putting 0 Done ∷ [])
repeat-deep = (refl, refl, refl)

-- cast to three
cast-row : Works (CastKind 3)
    ((Item 4 ∷ Empty ∷ Stop 0 ∷ Stop 1 ∷ Done ∷ []) ∷ [])
    ((Item 4 ∷ Empty ∷ Stop 0 ∷ Stop 1 ∷ Done ∷ []) ∷ (Item 4 ∷ Empty ∷ Stop 0 ∷ Stop 1 ∷ Done ∷ []) ∷ (Item 4 ∷ Empty ∷ Stop 0 ∷ Stop 1 ∷ Done ∷ []) ∷ [])
    (Taking 0 (Item 4) ∷ Putting 0 (Item 4) ∷ Putting 1 (Item 4) ∷ Putting 2 (Item 4) ∷ Taking 0 Empty ∷ Putting 0 Empty ∷ Putting 1 Empty ∷ Putting 2 Empty ∷ Taking 0 (Stop 0) ∷ Putting 0 (Stop 0) ∷ Putting 1 (Stop 0) ∷ Putting 2 (Stop 0) ∷ Taking 0 (Stop 1) ∷ Putting 0 (Stop 1) ∷ Putting 1 (Stop 1) ∷ Putting 2 (Stop 1) ∷ Taking 0 Done ∷ Putting 0 Done ∷ Putting 1 Done ∷ Putting 2 Done ∷ [])
cast-row = (refl, refl, refl)

-- cast to none
cast-none : Works (CastKind 0)
    ((Item 4 ∷ Done ∷ []) ∷ [])
    ([])
    (Taking 0 (Item 4) ∷ Taking 0 Done ∷ [])
cast-none = (refl, refl, refl)

-- drain
drain-row : Works (DrainKind)
    ((Item 4 ∷ Empty ∷ Stop 0 ∷ Stop 1 ∷ Done ∷ []) ∷ [])
    ([])
    (Taking 0 (Item 4) ∷ Taking 0 Empty ∷ Taking 0 (Stop 0) ∷ Taking 0 (Stop 1) ∷ Taking 0 Done ∷ [])
drain-row = (refl, refl, refl)

-- array
array-row : Works (ArrayKind (7 ∷ 0 ∷ 9 ∷ []))
    ((Item 2 ∷ Empty ∷ Stop 0 ∷ Item 1 ∷ Stop 1 ∷ Done ∷ []) ∷ [])
    ((Item 9 ∷ Empty ∷ Stop 0 ∷ Item 0 ∷ Stop 1 ∷ Done ∷ []) ∷ [])
    (Taking 0 (Item 2) ∷ Putting 0 (Item 9) ∷ Taking 0 Empty ∷ Putting 0 Empty ∷ Taking 0 (Stop 0) ∷ Putting 0 (Stop 0) ∷ Taking 0 (Item 1) ∷ Putting 0 (Item 0) ∷ Taking 0 (Stop 1) ∷ Putting 0 (Stop 1) ∷ Taking 0 Done ∷ Putting 0 Done ∷ [])
array-row = (refl, refl, refl)

-- const
const-row : Works (ConstKind 6)
    ((Item 2 ∷ Empty ∷ Stop 0 ∷ Item 1 ∷ Stop 1 ∷ Done ∷ []) ∷ [])
    ((Item 6 ∷ Empty ∷ Stop 0 ∷ Item 6 ∷ Stop 1 ∷ Done ∷ []) ∷ [])
    (Taking 0 (Item 2) ∷ Putting 0 (Item 6) ∷ Taking 0 Empty ∷ Putting 0 Empty ∷ Taking 0 (Stop 0) ∷ Putting 0 (Stop 0) ∷ Taking 0 (Item 1) ∷ Putting 0 (Item 6) ∷ Taking 0 (Stop 1) ∷ Putting 0 (Stop 1) ∷ Taking 0 Done ∷ Putting 0 Done ∷ [])
const-row = (refl, refl, refl)
