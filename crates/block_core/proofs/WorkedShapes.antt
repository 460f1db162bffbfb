-- Worked cases: whole inputs, whole outputs and moves.
use Rattle.std.specs.Prelude.{[], ◌∷◌, refl}
use Rattle.stream_tokens.specs.declared.Token.TheVariants.{Item, Empty, Stop, Done}
use Rattle.block_core.specs.Move.{Taking, Putting}
use Rattle.block_core.specs.Kind.{DropFiberKind, FillKind}
use Rattle.block_core.proofs.Works.{Works}

-- dropfiber
dropfiber-row : Works (DropFiberKind)
    ((Item 0 ∷ Item 1 ∷ Stop 0 ∷ Done ∷ []) ∷ (Item 0 ∷ Stop 0 ∷ Stop 1 ∷ Done ∷ []) ∷ [])
    ((Item 0 ∷ Stop 0 ∷ Done ∷ []) ∷ (Item 0 ∷ Stop 1 ∷ Done ∷ []) ∷ [])
    (Taking 0 (Item 0) ∷ Taking 1 (Item 0) ∷ Putting 0 (Item 0) ∷ Putting 1 (Item 0) ∷ Taking 1 (Stop 0) ∷ Taking 0 (Item 1) ∷ Taking 1 (Stop 1) ∷ Taking 0 (Stop 0) ∷ Putting 0 (Stop 0) ∷ Putting 1 (Stop 1) ∷ Taking 0 Done ∷ Taking 1 Done ∷ Putting 0 Done ∷ Putting 1 Done ∷ [])
dropfiber-row = (refl, refl, refl)

-- an empty fiber first, an empty outer fiber and nested stops
dropfiber-deep : Works (DropFiberKind)
    ((Item 0 ∷ Item 1 ∷ Stop 0 ∷ Stop 0 ∷ Item 2 ∷ Item 3 ∷ Stop 1 ∷ Done ∷ []) ∷ (Stop 0 ∷ Item 1 ∷ Item 2 ∷ Stop 1 ∷ Stop 1 ∷ Item 3 ∷ Stop 0 ∷ Item 4 ∷ Stop 2 ∷ Done ∷ []) ∷ [])
    ((Item 1 ∷ Stop 0 ∷ Stop 0 ∷ Item 2 ∷ Item 3 ∷ Stop 1 ∷ Done ∷ []) ∷ (Item 1 ∷ Item 2 ∷ Stop 1 ∷ Stop 1 ∷ Item 3 ∷ Stop 0 ∷ Item 4 ∷ Stop 2 ∷ Done ∷ []) ∷ [])
    (Taking 0 (Item 0) ∷ Taking 1 (Stop 0) ∷ Taking 0 (Item 1) ∷ Taking 1 (Item 1) ∷ Putting 0 (Item 1) ∷ Putting 1 (Item 1) ∷ Taking 1 (Item 2) ∷ Putting 1 (Item 2) ∷ Taking 1 (Stop 1) ∷ Taking 0 (Stop 0) ∷ Putting 0 (Stop 0) ∷ Putting 1 (Stop 1) ∷ Taking 0 (Stop 0) ∷ Taking 1 (Stop 1) ∷ Putting 0 (Stop 0) ∷ Putting 1 (Stop 1) ∷ Taking 0 (Item 2) ∷ Taking 1 (Item 3) ∷ Putting 0 (Item 2) ∷ Putting 1 (Item 3) ∷ Taking 1 (Stop 0) ∷ Taking 0 (Item 3) ∷ Taking 1 (Item 4) ∷ Putting 0 (Item 3) ∷ Putting 1 (Stop 0) ∷ Putting 1 (Item 4) ∷ Taking 1 (Stop 2) ∷ Taking 0 (Stop 1) ∷ Putting 0 (Stop 1) ∷ Putting 1 (Stop 2) ∷ Taking 0 Done ∷ Taking 1 Done ∷ Putting 0 Done ∷ Putting 1 Done ∷ [])
dropfiber-deep = (refl, refl, refl)

-- each fiber is empty
dropfiber-all : Works (DropFiberKind)
    ((Item 5 ∷ Stop 0 ∷ Item 6 ∷ Item 7 ∷ Stop 1 ∷ Done ∷ []) ∷ (Stop 1 ∷ Stop 0 ∷ Stop 2 ∷ Done ∷ []) ∷ [])
    ((Stop 0 ∷ Stop 1 ∷ Done ∷ []) ∷ (Stop 1 ∷ Stop 2 ∷ Done ∷ []) ∷ [])
    (Taking 0 (Item 5) ∷ Taking 1 (Stop 1) ∷ Taking 0 (Stop 0) ∷ Putting 0 (Stop 0) ∷ Putting 1 (Stop 1) ∷ Taking 0 (Item 6) ∷ Taking 1 (Stop 0) ∷ Taking 0 (Item 7) ∷ Taking 1 (Stop 2) ∷ Taking 0 (Stop 1) ∷ Putting 0 (Stop 1) ∷ Putting 1 (Stop 2) ∷ Taking 0 Done ∷ Taking 1 Done ∷ Putting 0 Done ∷ Putting 1 Done ∷ [])
dropfiber-all = (refl, refl, refl)

-- nothing to drop
dropfiber-empty : Works (DropFiberKind)
    ((Stop 0 ∷ Done ∷ []) ∷ (Stop 1 ∷ Done ∷ []) ∷ [])
    ((Stop 0 ∷ Done ∷ []) ∷ (Stop 1 ∷ Done ∷ []) ∷ [])
    (Taking 0 (Stop 0) ∷ Taking 1 (Stop 1) ∷ Putting 0 (Stop 0) ∷ Putting 1 (Stop 1) ∷ Taking 0 Done ∷ Taking 1 Done ∷ Putting 0 Done ∷ Putting 1 Done ∷ [])
dropfiber-empty = (refl, refl, refl)

-- fill
fill-row : Works (FillKind 1)
    ((Empty ∷ Item 1 ∷ Stop 0 ∷ Done ∷ []) ∷ (Item 0 ∷ Stop 1 ∷ Done ∷ []) ∷ (Stop 0 ∷ Stop 0 ∷ Item 4 ∷ Stop 1 ∷ Done ∷ []) ∷ [])
    ((Stop 0 ∷ Item 0 ∷ Stop 1 ∷ Done ∷ []) ∷ (Stop 0 ∷ Item 4 ∷ Stop 1 ∷ Done ∷ []) ∷ [])
    (Taking 0 Empty ∷ Taking 0 (Item 1) ∷ Putting 0 (Stop 0) ∷ Putting 1 (Stop 0) ∷ Taking 1 (Item 0) ∷ Taking 2 (Stop 0) ∷ Taking 2 (Stop 0) ∷ Taking 2 (Item 4) ∷ Putting 0 (Item 0) ∷ Putting 1 (Item 4) ∷ Taking 1 (Stop 1) ∷ Taking 2 (Stop 1) ∷ Taking 0 (Stop 0) ∷ Putting 0 (Stop 1) ∷ Putting 1 (Stop 1) ∷ Taking 0 Done ∷ Taking 1 Done ∷ Taking 2 Done ∷ Putting 0 Done ∷ Putting 1 Done ∷ [])
fill-row = (refl, refl, refl)

-- skipped fibers that differ from port to port
fill-deep : Works (FillKind 2)
    ((Item 1 ∷ Empty ∷ Stop 0 ∷ Stop 0 ∷ Item 1 ∷ Stop 1 ∷ Done ∷ []) ∷ (Stop 0 ∷ Item 2 ∷ Item 5 ∷ Stop 1 ∷ Stop 0 ∷ Item 1 ∷ Stop 0 ∷ Stop 2 ∷ Done ∷ []) ∷ (Item 7 ∷ Item 8 ∷ Stop 1 ∷ Item 9 ∷ Stop 2 ∷ Done ∷ []) ∷ (Stop 1 ∷ Item 3 ∷ Item 4 ∷ Stop 0 ∷ Item 6 ∷ Stop 0 ∷ Stop 0 ∷ Stop 2 ∷ Done ∷ []) ∷ [])
    ((Item 2 ∷ Item 5 ∷ Stop 0 ∷ Stop 1 ∷ Stop 1 ∷ Item 1 ∷ Stop 2 ∷ Done ∷ []) ∷ (Item 7 ∷ Item 8 ∷ Stop 0 ∷ Stop 1 ∷ Stop 1 ∷ Item 9 ∷ Stop 2 ∷ Done ∷ []) ∷ (Item 3 ∷ Item 4 ∷ Stop 0 ∷ Stop 1 ∷ Stop 1 ∷ Item 6 ∷ Stop 2 ∷ Done ∷ []) ∷ [])
    (Taking 0 (Item 1) ∷ Taking 1 (Stop 0) ∷ Taking 1 (Item 2) ∷ Taking 2 (Item 7) ∷ Taking 3 (Stop 1) ∷ Taking 3 (Item 3) ∷ Putting 0 (Item 2) ∷ Putting 1 (Item 7) ∷ Putting 2 (Item 3) ∷ Taking 1 (Item 5) ∷ Taking 2 (Item 8) ∷ Taking 3 (Item 4) ∷ Putting 0 (Item 5) ∷ Putting 1 (Item 8) ∷ Putting 2 (Item 4) ∷ Taking 1 (Stop 1) ∷ Taking 2 (Stop 1) ∷ Taking 3 (Stop 0) ∷ Taking 0 Empty ∷ Putting 0 (Stop 0) ∷ Putting 1 (Stop 0) ∷ Putting 2 (Stop 0) ∷ Taking 0 (Stop 0) ∷ Putting 0 (Stop 1) ∷ Putting 1 (Stop 1) ∷ Putting 2 (Stop 1) ∷ Taking 0 (Stop 0) ∷ Putting 0 (Stop 1) ∷ Putting 1 (Stop 1) ∷ Putting 2 (Stop 1) ∷ Taking 0 (Item 1) ∷ Taking 1 (Stop 0) ∷ Taking 1 (Item 1) ∷ Taking 2 (Item 9) ∷ Taking 3 (Item 6) ∷ Putting 0 (Item 1) ∷ Putting 1 (Item 9) ∷ Putting 2 (Item 6) ∷ Taking 1 (Stop 0) ∷ Taking 2 (Stop 2) ∷ Taking 3 (Stop 0) ∷ Taking 0 (Stop 1) ∷ Putting 0 (Stop 2) ∷ Putting 1 (Stop 2) ∷ Putting 2 (Stop 2) ∷ Taking 0 Done ∷ Taking 1 (Stop 2) ∷ Taking 1 Done ∷ Taking 2 Done ∷ Taking 3 (Stop 0) ∷ Taking 3 (Stop 2) ∷ Taking 3 Done ∷ Putting 0 Done ∷ Putting 1 Done ∷ Putting 2 Done ∷ [])
fill-deep = (refl, refl, refl)

-- nothing is present
fill-none : Works (FillKind 0)
    ((Empty ∷ Empty ∷ Stop 0 ∷ Done ∷ []) ∷ (Stop 1 ∷ Done ∷ []) ∷ [])
    ((Stop 0 ∷ Stop 1 ∷ Done ∷ []) ∷ [])
    (Taking 0 Empty ∷ Taking 0 Empty ∷ Putting 0 (Stop 0) ∷ Taking 0 (Stop 0) ∷ Putting 0 (Stop 1) ∷ Taking 0 Done ∷ Taking 1 (Stop 1) ∷ Taking 1 Done ∷ Putting 0 Done ∷ [])
fill-none = (refl, refl, refl)

-- no place at all
fill-empty : Works (FillKind 1)
    ((Stop 0 ∷ Done ∷ []) ∷ (Stop 1 ∷ Done ∷ []) ∷ (Stop 1 ∷ Done ∷ []) ∷ [])
    ((Stop 1 ∷ Done ∷ []) ∷ (Stop 1 ∷ Done ∷ []) ∷ [])
    (Taking 0 (Stop 0) ∷ Putting 0 (Stop 1) ∷ Putting 1 (Stop 1) ∷ Taking 0 Done ∷ Taking 1 (Stop 1) ∷ Taking 1 Done ∷ Taking 2 (Stop 1) ∷ Taking 2 Done ∷ Putting 0 Done ∷ Putting 1 Done ∷ [])
fill-empty = (refl, refl, refl)
