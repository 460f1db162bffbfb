-- Worked cases: whole inputs, whole outputs and moves.
use Rattle.std.specs.Prelude.{◌≡◌, [], ◌∷◌, refl}
use Rattle.stream_tokens.specs.declared.Token.TheVariants.{Item, Empty, Stop, Done}
use Rattle.block_core.specs.Move.{Taking}
use Rattle.block_core.specs.Kind.{WriteLevelKind, WriteValueKind}
use Rattle.block_core.specs.Written.{segs_of, crds_of, vals_of}
use Rattle.block_core.proofs.Works.{Works}

-- writelevel
writelevel-row : Works (WriteLevelKind 2)
    ((Item 1 ∷ Stop 0 ∷ Stop 0 ∷ Item 0 ∷ Stop 1 ∷ Done ∷ []) ∷ [])
    ([])
    (Taking 0 (Item 1) ∷ Taking 0 (Stop 0) ∷ Taking 0 (Stop 0) ∷ Taking 0 (Item 0) ∷ Taking 0 (Stop 1) ∷ Taking 0 Done ∷ [])
writelevel-row = (refl, refl, refl)

-- writevalue
writevalue-row : Works (WriteValueKind)
    ((Item 1 ∷ Empty ∷ Stop 0 ∷ Item 0 ∷ Stop 1 ∷ Done ∷ []) ∷ [])
    ([])
    (Taking 0 (Item 1) ∷ Taking 0 Empty ∷ Taking 0 (Stop 0) ∷ Taking 0 (Item 0) ∷ Taking 0 (Stop 1) ∷ Taking 0 Done ∷ [])
writevalue-row = (refl, refl, refl)

-- the arrays that are written of level 2: an empty fiber has no end of its own
level-two-segs : segs_of 2 (Item 1 ∷ Stop 0 ∷ Stop 0 ∷ Item 0 ∷ Stop 1 ∷ Done ∷ []) ≡ 0 ∷ 1 ∷ 2 ∷ []
level-two-segs = refl

level-two-crds : crds_of (Item 1 ∷ Stop 0 ∷ Stop 0 ∷ Item 0 ∷ Stop 1 ∷ Done ∷ []) ≡ 1 ∷ 0 ∷ []
level-two-crds = refl

-- of level 1, whose only fiber is empty
level-one-segs : segs_of 1 (Stop 0 ∷ Done ∷ []) ≡ 0 ∷ 0 ∷ []
level-one-segs = refl

level-one-crds : crds_of (Stop 0 ∷ Done ∷ []) ≡ []
level-one-crds = refl

-- an empty token is no item: it is neither counted nor a reason for an end
uncounted-segs : segs_of 1 (Item 4 ∷ Empty ∷ Stop 0 ∷ Done ∷ []) ≡ 0 ∷ 1 ∷ []
uncounted-segs = refl

without-items-segs : segs_of 2 (Item 1 ∷ Empty ∷ Stop 0 ∷ Empty ∷ Stop 1 ∷ Done ∷ []) ≡ 0 ∷ 1 ∷ []
without-items-segs = refl

-- of values: an item 0 stays, an empty token doesn't
values-written : vals_of (Item 5 ∷ Empty ∷ Item 0 ∷ Stop 0 ∷ Stop 1 ∷ Done ∷ []) ≡ 5 ∷ 0 ∷ []
values-written = refl
