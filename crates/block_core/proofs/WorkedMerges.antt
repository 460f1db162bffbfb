-- Worked cases: whole inputs, whole outputs and moves.
use Rattle.std.specs.Prelude.{[], ◌∷◌, refl}
use Rattle.stream_tokens.specs.declared.Token.TheVariants.{Item, Empty, Stop, Done}
use Rattle.block_core.specs.Move.{Taking, Putting}
use Rattle.block_core.specs.Kind.{IntersectKind, UnionKind}
use Rattle.block_core.proofs.Works.{Works}

-- intersect
intersect-row : Works (IntersectKind 1 1)
    ((Item 0 ∷ Item 2 ∷ Stop 0 ∷ Done ∷ []) ∷ (Item 0 ∷ Item 1 ∷ Stop 0 ∷ Done ∷ []) ∷ (Item 2 ∷ Item 3 ∷ Stop 0 ∷ Done ∷ []) ∷ (Item 0 ∷ Item 1 ∷ Stop 0 ∷ Done ∷ []) ∷ [])
    ((Item 2 ∷ Stop 0 ∷ Done ∷ []) ∷ (Item 1 ∷ Stop 0 ∷ Done ∷ []) ∷ (Item 0 ∷ Stop 0 ∷ Done ∷ []) ∷ [])
    (Taking 0 (Item 0) ∷ Taking 1 (Item 0) ∷ Taking 2 (Item 2) ∷ Taking 3 (Item 0) ∷ Taking 0 (Item 2) ∷ Taking 1 (Item 1) ∷ Putting 0 (Item 2) ∷ Putting 1 (Item 1) ∷ Putting 2 (Item 0) ∷ Taking 0 (Stop 0) ∷ Taking 1 (Stop 0) ∷ Taking 2 (Item 3) ∷ Taking 3 (Item 1) ∷ Taking 2 (Stop 0) ∷ Taking 3 (Stop 0) ∷ Putting 0 (Stop 0) ∷ Putting 1 (Stop 0) ∷ Putting 2 (Stop 0) ∷ Taking 0 Done ∷ Taking 1 Done ∷ Taking 2 Done ∷ Taking 3 Done ∷ Putting 0 Done ∷ Putting 1 Done ∷ Putting 2 Done ∷ [])
intersect-row = (refl, refl, refl)

-- union
union-row : Works (UnionKind 1 1)
    ((Item 0 ∷ Item 2 ∷ Stop 0 ∷ Done ∷ []) ∷ (Item 0 ∷ Item 1 ∷ Stop 0 ∷ Done ∷ []) ∷ (Item 2 ∷ Item 3 ∷ Stop 0 ∷ Done ∷ []) ∷ (Item 0 ∷ Item 1 ∷ Stop 0 ∷ Done ∷ []) ∷ [])
    ((Item 0 ∷ Item 2 ∷ Item 3 ∷ Stop 0 ∷ Done ∷ []) ∷ (Item 0 ∷ Item 1 ∷ Empty ∷ Stop 0 ∷ Done ∷ []) ∷ (Empty ∷ Item 0 ∷ Item 1 ∷ Stop 0 ∷ Done ∷ []) ∷ [])
    (Taking 0 (Item 0) ∷ Taking 1 (Item 0) ∷ Taking 2 (Item 2) ∷ Taking 3 (Item 0) ∷ Putting 0 (Item 0) ∷ Putting 1 (Item 0) ∷ Putting 2 Empty ∷ Taking 0 (Item 2) ∷ Taking 1 (Item 1) ∷ Putting 0 (Item 2) ∷ Putting 1 (Item 1) ∷ Putting 2 (Item 0) ∷ Taking 0 (Stop 0) ∷ Taking 1 (Stop 0) ∷ Taking 2 (Item 3) ∷ Taking 3 (Item 1) ∷ Putting 0 (Item 3) ∷ Putting 1 Empty ∷ Putting 2 (Item 1) ∷ Taking 2 (Stop 0) ∷ Taking 3 (Stop 0) ∷ Putting 0 (Stop 0) ∷ Putting 1 (Stop 0) ∷ Putting 2 (Stop 0) ∷ Taking 0 Done ∷ Taking 1 Done ∷ Taking 2 Done ∷ Taking 3 Done ∷ Putting 0 Done ∷ Putting 1 Done ∷ Putting 2 Done ∷ [])
union-row = (refl, refl, refl)

-- no payloads, and one coordinate on one side alone
intersect-apart : Works (IntersectKind 0 0)
    ((Item 1 ∷ Item 2 ∷ Stop 0 ∷ Done ∷ []) ∷ (Item 2 ∷ Stop 0 ∷ Done ∷ []) ∷ [])
    ((Item 2 ∷ Stop 0 ∷ Done ∷ []) ∷ [])
    (Taking 0 (Item 1) ∷ Taking 1 (Item 2) ∷ Taking 0 (Item 2) ∷ Putting 0 (Item 2) ∷ Taking 0 (Stop 0) ∷ Taking 1 (Stop 0) ∷ Putting 0 (Stop 0) ∷ Taking 0 Done ∷ Taking 1 Done ∷ Putting 0 Done ∷ [])
intersect-apart = (refl, refl, refl)

-- nothing on either side
intersect-empty : Works (IntersectKind 1 0)
    ((Stop 1 ∷ Done ∷ []) ∷ (Stop 1 ∷ Done ∷ []) ∷ (Stop 1 ∷ Done ∷ []) ∷ [])
    ((Stop 1 ∷ Done ∷ []) ∷ (Stop 1 ∷ Done ∷ []) ∷ [])
    (Taking 0 (Stop 1) ∷ Taking 1 (Stop 1) ∷ Taking 2 (Stop 1) ∷ Putting 0 (Stop 1) ∷ Putting 1 (Stop 1) ∷ Taking 0 Done ∷ Taking 1 Done ∷ Taking 2 Done ∷ Putting 0 Done ∷ Putting 1 Done ∷ [])
intersect-empty = (refl, refl, refl)

-- empty fibers, nested stops and empty payloads
intersect-deep : Works (IntersectKind 2 1)
    ((Item 1 ∷ Item 3 ∷ Stop 0 ∷ Stop 0 ∷ Item 4 ∷ Stop 1 ∷ Stop 2 ∷ Done ∷ []) ∷ (Item 5 ∷ Item 6 ∷ Stop 0 ∷ Stop 0 ∷ Item 7 ∷ Stop 1 ∷ Stop 2 ∷ Done ∷ []) ∷ (Empty ∷ Item 8 ∷ Stop 0 ∷ Stop 0 ∷ Item 9 ∷ Stop 1 ∷ Stop 2 ∷ Done ∷ []) ∷ (Item 0 ∷ Item 3 ∷ Item 9 ∷ Stop 0 ∷ Item 2 ∷ Stop 0 ∷ Stop 1 ∷ Stop 2 ∷ Done ∷ []) ∷ (Item 1 ∷ Empty ∷ Item 3 ∷ Stop 0 ∷ Item 4 ∷ Stop 0 ∷ Stop 1 ∷ Stop 2 ∷ Done ∷ []) ∷ [])
    ((Item 3 ∷ Stop 0 ∷ Stop 0 ∷ Stop 1 ∷ Stop 2 ∷ Done ∷ []) ∷ (Item 6 ∷ Stop 0 ∷ Stop 0 ∷ Stop 1 ∷ Stop 2 ∷ Done ∷ []) ∷ (Item 8 ∷ Stop 0 ∷ Stop 0 ∷ Stop 1 ∷ Stop 2 ∷ Done ∷ []) ∷ (Empty ∷ Stop 0 ∷ Stop 0 ∷ Stop 1 ∷ Stop 2 ∷ Done ∷ []) ∷ [])
    (Taking 0 (Item 1) ∷ Taking 1 (Item 5) ∷ Taking 2 Empty ∷ Taking 3 (Item 0) ∷ Taking 4 (Item 1) ∷ Taking 3 (Item 3) ∷ Taking 4 Empty ∷ Taking 0 (Item 3) ∷ Taking 1 (Item 6) ∷ Taking 2 (Item 8) ∷ Putting 0 (Item 3) ∷ Putting 1 (Item 6) ∷ Putting 2 (Item 8) ∷ Putting 3 Empty ∷ Taking 0 (Stop 0) ∷ Taking 1 (Stop 0) ∷ Taking 2 (Stop 0) ∷ Taking 3 (Item 9) ∷ Taking 4 (Item 3) ∷ Taking 3 (Stop 0) ∷ Taking 4 (Stop 0) ∷ Putting 0 (Stop 0) ∷ Putting 1 (Stop 0) ∷ Putting 2 (Stop 0) ∷ Putting 3 (Stop 0) ∷ Taking 0 (Stop 0) ∷ Taking 1 (Stop 0) ∷ Taking 2 (Stop 0) ∷ Taking 3 (Item 2) ∷ Taking 4 (Item 4) ∷ Taking 3 (Stop 0) ∷ Taking 4 (Stop 0) ∷ Putting 0 (Stop 0) ∷ Putting 1 (Stop 0) ∷ Putting 2 (Stop 0) ∷ Putting 3 (Stop 0) ∷ Taking 0 (Item 4) ∷ Taking 1 (Item 7) ∷ Taking 2 (Item 9) ∷ Taking 3 (Stop 1) ∷ Taking 4 (Stop 1) ∷ Taking 0 (Stop 1) ∷ Taking 1 (Stop 1) ∷ Taking 2 (Stop 1) ∷ Putting 0 (Stop 1) ∷ Putting 1 (Stop 1) ∷ Putting 2 (Stop 1) ∷ Putting 3 (Stop 1) ∷ Taking 0 (Stop 2) ∷ Taking 1 (Stop 2) ∷ Taking 2 (Stop 2) ∷ Taking 3 (Stop 2) ∷ Taking 4 (Stop 2) ∷ Putting 0 (Stop 2) ∷ Putting 1 (Stop 2) ∷ Putting 2 (Stop 2) ∷ Putting 3 (Stop 2) ∷ Taking 0 Done ∷ Taking 1 Done ∷ Taking 2 Done ∷ Taking 3 Done ∷ Taking 4 Done ∷ Putting 0 Done ∷ Putting 1 Done ∷ Putting 2 Done ∷ Putting 3 Done ∷ [])
intersect-deep = (refl, refl, refl)

-- the same for union
union-deep : Works (UnionKind 1 1)
    ((Stop 0 ∷ Item 4 ∷ Stop 1 ∷ Stop 2 ∷ Done ∷ []) ∷ (Stop 0 ∷ Empty ∷ Stop 1 ∷ Stop 2 ∷ Done ∷ []) ∷ (Item 0 ∷ Item 3 ∷ Stop 0 ∷ Item 2 ∷ Item 4 ∷ Stop 1 ∷ Stop 2 ∷ Done ∷ []) ∷ (Item 1 ∷ Empty ∷ Stop 0 ∷ Item 4 ∷ Item 5 ∷ Stop 1 ∷ Stop 2 ∷ Done ∷ []) ∷ [])
    ((Item 0 ∷ Item 3 ∷ Stop 0 ∷ Item 2 ∷ Item 4 ∷ Stop 1 ∷ Stop 2 ∷ Done ∷ []) ∷ (Empty ∷ Empty ∷ Stop 0 ∷ Empty ∷ Empty ∷ Stop 1 ∷ Stop 2 ∷ Done ∷ []) ∷ (Item 1 ∷ Empty ∷ Stop 0 ∷ Item 4 ∷ Item 5 ∷ Stop 1 ∷ Stop 2 ∷ Done ∷ []) ∷ [])
    (Taking 0 (Stop 0) ∷ Taking 1 (Stop 0) ∷ Taking 2 (Item 0) ∷ Taking 3 (Item 1) ∷ Putting 0 (Item 0) ∷ Putting 1 Empty ∷ Putting 2 (Item 1) ∷ Taking 2 (Item 3) ∷ Taking 3 Empty ∷ Putting 0 (Item 3) ∷ Putting 1 Empty ∷ Putting 2 Empty ∷ Taking 2 (Stop 0) ∷ Taking 3 (Stop 0) ∷ Putting 0 (Stop 0) ∷ Putting 1 (Stop 0) ∷ Putting 2 (Stop 0) ∷ Taking 0 (Item 4) ∷ Taking 1 Empty ∷ Taking 2 (Item 2) ∷ Taking 3 (Item 4) ∷ Putting 0 (Item 2) ∷ Putting 1 Empty ∷ Putting 2 (Item 4) ∷ Taking 2 (Item 4) ∷ Taking 3 (Item 5) ∷ Putting 0 (Item 4) ∷ Putting 1 Empty ∷ Putting 2 (Item 5) ∷ Taking 0 (Stop 1) ∷ Taking 1 (Stop 1) ∷ Taking 2 (Stop 1) ∷ Taking 3 (Stop 1) ∷ Putting 0 (Stop 1) ∷ Putting 1 (Stop 1) ∷ Putting 2 (Stop 1) ∷ Taking 0 (Stop 2) ∷ Taking 1 (Stop 2) ∷ Taking 2 (Stop 2) ∷ Taking 3 (Stop 2) ∷ Putting 0 (Stop 2) ∷ Putting 1 (Stop 2) ∷ Putting 2 (Stop 2) ∷ Taking 0 Done ∷ Taking 1 Done ∷ Taking 2 Done ∷ Taking 3 Done ∷ Putting 0 Done ∷ Putting 1 Done ∷ Putting 2 Done ∷ [])
union-deep = (refl, refl, refl)

-- payloads on one side alone
union-plain : Works (UnionKind 0 2)
    ((Item 5 ∷ Stop 0 ∷ Done ∷ []) ∷ (Item 6 ∷ Stop 0 ∷ Done ∷ []) ∷ (Item 1 ∷ Stop 0 ∷ Done ∷ []) ∷ (Item 2 ∷ Stop 0 ∷ Done ∷ []) ∷ [])
    ((Item 5 ∷ Item 6 ∷ Stop 0 ∷ Done ∷ []) ∷ (Empty ∷ Item 1 ∷ Stop 0 ∷ Done ∷ []) ∷ (Empty ∷ Item 2 ∷ Stop 0 ∷ Done ∷ []) ∷ [])
    (Taking 0 (Item 5) ∷ Taking 1 (Item 6) ∷ Taking 2 (Item 1) ∷ Taking 3 (Item 2) ∷ Putting 0 (Item 5) ∷ Putting 1 Empty ∷ Putting 2 Empty ∷ Taking 0 (Stop 0) ∷ Putting 0 (Item 6) ∷ Putting 1 (Item 1) ∷ Putting 2 (Item 2) ∷ Taking 1 (Stop 0) ∷ Taking 2 (Stop 0) ∷ Taking 3 (Stop 0) ∷ Putting 0 (Stop 0) ∷ Putting 1 (Stop 0) ∷ Putting 2 (Stop 0) ∷ Taking 0 Done ∷ Taking 1 Done ∷ Taking 2 Done ∷ Taking 3 Done ∷ Putting 0 Done ∷ Putting 1 Done ∷ Putting 2 Done ∷ [])
union-plain = (refl, refl, refl)
