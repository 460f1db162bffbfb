-- What the block functions give on worked rows.
use Rattle.std.proofs.Common.{◌≡◌, [], ◌∷◌, refl}
use Rattle.stream_tokens.specs.declared.Token.TheVariants.{Item, Empty, Stop, Done}
use Rattle.block_core.specs.Kind.{DropValueKind, DropFiberKind, FillKind, outputs}

values_dropped : outputs DropValueKind
    ((Item 0 ∷ Item 1 ∷ Stop 0 ∷ Item 2 ∷ Stop 1 ∷ Done ∷ []) ∷ (Item 5 ∷ Empty ∷ Stop 0 ∷ Empty ∷ Stop 1 ∷ Done ∷ []) ∷ [])
    ≡ (Item 0 ∷ Stop 0 ∷ Stop 1 ∷ Done ∷ []) ∷ (Item 5 ∷ Stop 0 ∷ Stop 1 ∷ Done ∷ []) ∷ []
values_dropped = refl

-- a value of zero is a value
zero_kept : outputs DropValueKind
    ((Item 0 ∷ Item 1 ∷ Stop 0 ∷ Done ∷ []) ∷ (Item 0 ∷ Empty ∷ Stop 0 ∷ Done ∷ []) ∷ [])
    ≡ (Item 0 ∷ Stop 0 ∷ Done ∷ []) ∷ (Item 0 ∷ Stop 0 ∷ Done ∷ []) ∷ []
zero_kept = refl

fibers_dropped : outputs DropFiberKind
    ((Item 0 ∷ Item 1 ∷ Stop 0 ∷ Done ∷ []) ∷ (Item 0 ∷ Stop 0 ∷ Stop 1 ∷ Done ∷ []) ∷ [])
    ≡ (Item 0 ∷ Stop 0 ∷ Done ∷ []) ∷ (Item 0 ∷ Stop 1 ∷ Done ∷ []) ∷ []
fibers_dropped = refl

-- empty fibers first
first_dropped : outputs DropFiberKind
    ((Item 0 ∷ Item 1 ∷ Item 2 ∷ Stop 0 ∷ Done ∷ []) ∷ (Stop 0 ∷ Item 3 ∷ Item 4 ∷ Stop 0 ∷ Item 5 ∷ Stop 1 ∷ Done ∷ []) ∷ [])
    ≡ (Item 1 ∷ Item 2 ∷ Stop 0 ∷ Done ∷ []) ∷ (Item 3 ∷ Item 4 ∷ Stop 0 ∷ Item 5 ∷ Stop 1 ∷ Done ∷ []) ∷ []
first_dropped = refl

filled : outputs (FillKind 1)
    ((Empty ∷ Item 1 ∷ Stop 0 ∷ Done ∷ []) ∷ (Item 0 ∷ Stop 1 ∷ Done ∷ []) ∷ (Stop 0 ∷ Stop 0 ∷ Item 4 ∷ Stop 1 ∷ Done ∷ []) ∷ [])
    ≡ (Stop 0 ∷ Item 0 ∷ Stop 1 ∷ Done ∷ []) ∷ (Stop 0 ∷ Item 4 ∷ Stop 1 ∷ Done ∷ []) ∷ []
filled = refl

-- empty fibers of which the presence doesn't know, before, between and after
passed_over : outputs (FillKind 0)
    ((Item 5 ∷ Item 6 ∷ Stop 0 ∷ Done ∷ []) ∷ (Stop 0 ∷ Item 1 ∷ Item 2 ∷ Stop 0 ∷ Stop 0 ∷ Item 3 ∷ Stop 0 ∷ Stop 1 ∷ Done ∷ []) ∷ [])
    ≡ (Item 1 ∷ Item 2 ∷ Stop 0 ∷ Item 3 ∷ Stop 1 ∷ Done ∷ []) ∷ []
passed_over = refl
