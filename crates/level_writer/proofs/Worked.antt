-- What is written of worked streams.
use Rattle.std.proofs.Common.{◌≡◌, List, [], ◌∷◌, refl}
use Rattle.stream_tokens.specs.declared.Token.{Token}
use Rattle.stream_tokens.specs.declared.Token.TheVariants.{Item, Empty, Stop, Done}
use Rattle.block_core.specs.Written.{segs_of, crds_of, vals_of}

-- a fiber without a coordinate, between two that have one
ragged : List Token
ragged = Item 1 ∷ Stop 0 ∷ Stop 0 ∷ Item 0 ∷ Stop 1 ∷ Done ∷ []

ragged_segs : segs_of 2 ragged ≡ 0 ∷ 1 ∷ 2 ∷ []
unfolding ragged
ragged_segs = refl

ragged_crds : crds_of ragged ≡ 1 ∷ 0 ∷ []
unfolding ragged
ragged_crds = refl

empty_segs : segs_of 1 (Stop 0 ∷ Done ∷ []) ≡ 0 ∷ 0 ∷ []
empty_segs = refl

empty_below : segs_of 2 (Stop 1 ∷ Done ∷ []) ≡ 0 ∷ []
empty_below = refl

dense_segs : segs_of 1 (Item 0 ∷ Item 1 ∷ Item 2 ∷ Stop 0 ∷ Done ∷ []) ≡ 0 ∷ 3 ∷ []
dense_segs = refl

some_vals : vals_of (Item 5 ∷ Empty ∷ Stop 0 ∷ Empty ∷ Stop 1 ∷ Done ∷ []) ≡ 5 ∷ []
some_vals = refl

one_val : vals_of (Item 7 ∷ Done ∷ []) ≡ 7 ∷ []
one_val = refl
