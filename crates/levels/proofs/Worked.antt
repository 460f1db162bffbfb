-- Worked tensors by their ranks.
use Rattle.std.proofs.Common.{◌≡◌, [], ◌∷◌, refl}
use Rattle.sam_model.specs.declared.tensors.Format.TheVariants.{Dense, Compressed}
use Rattle.sam_model.specs.Tensors.{Stored, stored_prefixes}
use Rattle.sam_model.specs.Children.{children_of, values_of, ranked}
use Rattle.levels.specs.Keys.{packed, weight, digits}
use Rattle.levels.specs.Rows.{outer}

-- a 2 x 2 tensor with a dense level after a compressed one
trailing : Stored
trailing = record { formats = Compressed ∷ Dense ∷ []; sizes = 2 ∷ 2 ∷ []; entries = (1 ∷ 0 ∷ [], 4) ∷ [] }

trailing-prefixes : stored_prefixes trailing 2 ≡ (1 ∷ 0 ∷ []) ∷ (1 ∷ 1 ∷ []) ∷ []
unfolding trailing
trailing-prefixes = refl

trailing-children : children_of trailing 2 ≡ ((0, 0) ∷ (1, 1) ∷ []) ∷ []
unfolding trailing
trailing-children = refl

trailing-values : values_of trailing ≡ 4 ∷ 0 ∷ []
unfolding trailing
trailing-values = refl

-- a matrix of two compressed levels
matrix : Stored
matrix = record {
  formats = Compressed ∷ Compressed ∷ [];
  sizes = 4 ∷ 4 ∷ [];
  entries = (3 ∷ 3 ∷ [], 5) ∷ (0 ∷ 1 ∷ [], 1) ∷ (1 ∷ 2 ∷ [], 3) ∷ (1 ∷ 0 ∷ [], 2) ∷ (3 ∷ 1 ∷ [], 4) ∷ [];
}

matrix-rows : children_of matrix 1 ≡ ((0, 0) ∷ (1, 1) ∷ (3, 2) ∷ []) ∷ []
unfolding matrix
matrix-rows = refl

matrix-columns : children_of matrix 2 ≡ ((1, 0) ∷ []) ∷ ((0, 1) ∷ (2, 2) ∷ []) ∷ ((1, 3) ∷ (3, 4) ∷ []) ∷ []
unfolding matrix
matrix-columns = refl

-- repeated entries, summed modulo 2^64
repeated : Stored
repeated = record { formats = Compressed ∷ []; sizes = 4 ∷ []; entries = (2 ∷ [], 9223372036854775808) ∷ (2 ∷ [], 9223372036854775808) ∷ (2 ∷ [], 7) ∷ [] }

repeated-values : values_of repeated ≡ 7 ∷ []
unfolding repeated
repeated-values = refl

-- without entries, a dense level before a compressed one
empty : Stored
empty = record { formats = Dense ∷ Compressed ∷ []; sizes = 2 ∷ 2 ∷ []; entries = [] }

empty-ranked : ranked empty ≡ record { counts = 1 ∷ 2 ∷ 0 ∷ []; children = (((0, 0) ∷ (1, 1) ∷ []) ∷ []) ∷ ([] ∷ [] ∷ []) ∷ []; values = [] }
unfolding empty
empty-ranked = refl

-- coordinates as digits to the bases of their sizes
packed-row : packed 0 (10 ∷ 10 ∷ 4 ∷ []) (1 ∷ 5 ∷ 3 ∷ []) ≡ 63
packed-row = refl

-- a row with no level is one number
packed-none : packed 0 [] [] ≡ 0
packed-none = refl

-- two coordinates as one number
outer-row : outer (1 ∷ 5 ∷ 7 ∷ []) ≡ 4294967301
outer-row = refl

-- the digits of 63 to the same bases, whose inner two spell 40 numbers
weight-row : weight (10 ∷ 4 ∷ []) ≡ 40
weight-row = refl

digits-row : digits (10 ∷ 10 ∷ 4 ∷ []) 63 ≡ 1 ∷ 5 ∷ 3 ∷ []
digits-row = refl
