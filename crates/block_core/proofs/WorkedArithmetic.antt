-- Worked cases: whole inputs, whole outputs and moves.
use Rattle.std.specs.Prelude.{[], ◌∷◌, refl}
use Rattle.stream_tokens.specs.declared.Token.TheVariants.{Item, Empty, Stop, Done}
use Rattle.block_core.specs.Move.{Taking, Putting}
use Rattle.block_core.specs.Arithmetic.{Times, Plus, Minus}
use Rattle.block_core.specs.Kind.{AluKind, DropValueKind}
use Rattle.block_core.proofs.Works.{Works}

-- sub
sub-row : Works (AluKind Minus)
    ((Item 5 ∷ Empty ∷ Item 5 ∷ Empty ∷ Stop 0 ∷ Done ∷ []) ∷ (Item 2 ∷ Item 2 ∷ Empty ∷ Empty ∷ Stop 0 ∷ Done ∷ []) ∷ [])
    ((Item 3 ∷ Item 18446744073709551614 ∷ Item 5 ∷ Empty ∷ Stop 0 ∷ Done ∷ []) ∷ [])
    (Taking 0 (Item 5) ∷ Taking 1 (Item 2) ∷ Putting 0 (Item 3) ∷ Taking 0 Empty ∷ Taking 1 (Item 2) ∷ Putting 0 (Item 18446744073709551614) ∷ Taking 0 (Item 5) ∷ Taking 1 Empty ∷ Putting 0 (Item 5) ∷ Taking 0 Empty ∷ Taking 1 Empty ∷ Putting 0 Empty ∷ Taking 0 (Stop 0) ∷ Taking 1 (Stop 0) ∷ Putting 0 (Stop 0) ∷ Taking 0 Done ∷ Taking 1 Done ∷ Putting 0 Done ∷ [])
sub-row = (refl, refl, refl)

-- mul
mul-row : Works (AluKind Times)
    ((Item 5 ∷ Empty ∷ Item 5 ∷ Empty ∷ Stop 0 ∷ Done ∷ []) ∷ (Item 4294967296 ∷ Item 2 ∷ Empty ∷ Empty ∷ Stop 0 ∷ Done ∷ []) ∷ [])
    ((Item 21474836480 ∷ Empty ∷ Empty ∷ Empty ∷ Stop 0 ∷ Done ∷ []) ∷ [])
    (Taking 0 (Item 5) ∷ Taking 1 (Item 4294967296) ∷ Putting 0 (Item 21474836480) ∷ Taking 0 Empty ∷ Taking 1 (Item 2) ∷ Putting 0 Empty ∷ Taking 0 (Item 5) ∷ Taking 1 Empty ∷ Putting 0 Empty ∷ Taking 0 Empty ∷ Taking 1 Empty ∷ Putting 0 Empty ∷ Taking 0 (Stop 0) ∷ Taking 1 (Stop 0) ∷ Putting 0 (Stop 0) ∷ Taking 0 Done ∷ Taking 1 Done ∷ Putting 0 Done ∷ [])
mul-row = (refl, refl, refl)

-- mul modulo 2^64, of depth 0
mul-wraps : Works (AluKind Times)
    ((Item 4294967296 ∷ Done ∷ []) ∷ (Item 4294967297 ∷ Done ∷ []) ∷ [])
    ((Item 4294967296 ∷ Done ∷ []) ∷ [])
    (Taking 0 (Item 4294967296) ∷ Taking 1 (Item 4294967297) ∷ Putting 0 (Item 4294967296) ∷ Taking 0 Done ∷ Taking 1 Done ∷ Putting 0 Done ∷ [])
mul-wraps = (refl, refl, refl)

-- add modulo 2^64
add-row : Works (AluKind Plus)
    ((Item 5 ∷ Empty ∷ Item 5 ∷ Empty ∷ Stop 0 ∷ Stop 1 ∷ Done ∷ []) ∷ (Item 18446744073709551615 ∷ Item 2 ∷ Empty ∷ Empty ∷ Stop 0 ∷ Stop 1 ∷ Done ∷ []) ∷ [])
    ((Item 4 ∷ Item 2 ∷ Item 5 ∷ Empty ∷ Stop 0 ∷ Stop 1 ∷ Done ∷ []) ∷ [])
    (Taking 0 (Item 5) ∷ Taking 1 (Item 18446744073709551615) ∷ Putting 0 (Item 4) ∷ Taking 0 Empty ∷ Taking 1 (Item 2) ∷ Putting 0 (Item 2) ∷ Taking 0 (Item 5) ∷ Taking 1 Empty ∷ Putting 0 (Item 5) ∷ Taking 0 Empty ∷ Taking 1 Empty ∷ Putting 0 Empty ∷ Taking 0 (Stop 0) ∷ Taking 1 (Stop 0) ∷ Putting 0 (Stop 0) ∷ Taking 0 (Stop 1) ∷ Taking 1 (Stop 1) ∷ Putting 0 (Stop 1) ∷ Taking 0 Done ∷ Taking 1 Done ∷ Putting 0 Done ∷ [])
add-row = (refl, refl, refl)

-- dropvalue
dropvalue-row : Works (DropValueKind)
    ((Item 0 ∷ Item 1 ∷ Stop 0 ∷ Item 2 ∷ Stop 1 ∷ Done ∷ []) ∷ (Item 5 ∷ Empty ∷ Stop 0 ∷ Empty ∷ Stop 1 ∷ Done ∷ []) ∷ [])
    ((Item 0 ∷ Stop 0 ∷ Stop 1 ∷ Done ∷ []) ∷ (Item 5 ∷ Stop 0 ∷ Stop 1 ∷ Done ∷ []) ∷ [])
    (Taking 0 (Item 0) ∷ Taking 1 (Item 5) ∷ Putting 0 (Item 0) ∷ Putting 1 (Item 5) ∷ Taking 0 (Item 1) ∷ Taking 1 Empty ∷ Taking 0 (Stop 0) ∷ Taking 1 (Stop 0) ∷ Putting 0 (Stop 0) ∷ Putting 1 (Stop 0) ∷ Taking 0 (Item 2) ∷ Taking 1 Empty ∷ Taking 0 (Stop 1) ∷ Taking 1 (Stop 1) ∷ Putting 0 (Stop 1) ∷ Putting 1 (Stop 1) ∷ Taking 0 Done ∷ Taking 1 Done ∷ Putting 0 Done ∷ Putting 1 Done ∷ [])
dropvalue-row = (refl, refl, refl)

-- nothing to drop
dropvalue-empty : Works (DropValueKind)
    ((Stop 1 ∷ Done ∷ []) ∷ (Stop 1 ∷ Done ∷ []) ∷ [])
    ((Stop 1 ∷ Done ∷ []) ∷ (Stop 1 ∷ Done ∷ []) ∷ [])
    (Taking 0 (Stop 1) ∷ Taking 1 (Stop 1) ∷ Putting 0 (Stop 1) ∷ Putting 1 (Stop 1) ∷ Taking 0 Done ∷ Taking 1 Done ∷ Putting 0 Done ∷ Putting 1 Done ∷ [])
dropvalue-empty = (refl, refl, refl)

-- a value 0 stays
dropvalue-zero : Works (DropValueKind)
    ((Item 3 ∷ Item 4 ∷ Stop 0 ∷ Stop 1 ∷ Done ∷ []) ∷ (Item 0 ∷ Empty ∷ Stop 0 ∷ Stop 1 ∷ Done ∷ []) ∷ [])
    ((Item 3 ∷ Stop 0 ∷ Stop 1 ∷ Done ∷ []) ∷ (Item 0 ∷ Stop 0 ∷ Stop 1 ∷ Done ∷ []) ∷ [])
    (Taking 0 (Item 3) ∷ Taking 1 (Item 0) ∷ Putting 0 (Item 3) ∷ Putting 1 (Item 0) ∷ Taking 0 (Item 4) ∷ Taking 1 Empty ∷ Taking 0 (Stop 0) ∷ Taking 1 (Stop 0) ∷ Putting 0 (Stop 0) ∷ Putting 1 (Stop 0) ∷ Taking 0 (Stop 1) ∷ Taking 1 (Stop 1) ∷ Putting 0 (Stop 1) ∷ Putting 1 (Stop 1) ∷ Taking 0 Done ∷ Taking 1 Done ∷ Putting 0 Done ∷ Putting 1 Done ∷ [])
dropvalue-zero = (refl, refl, refl)
