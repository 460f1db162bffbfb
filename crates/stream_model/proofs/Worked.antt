-- The streams of labels, evaluated on worked rows.
use Rattle.std.proofs.Common.{◌≡◌, ◌-◌, ◌^◌, true, false, List, [], ◌∷◌, codes, refl}
use mathlib.Core.List.{map}
use Rattle.sam_model.specs.declared.tensors.Format.TheVariants.{Dense, Compressed}
use Rattle.sam_model.specs.declared.tensors.Entries.{Entries}
use Rattle.sam_model.specs.declared.program.Program.{Program}
use Rattle.sam_model.specs.declared.program.Factor.TheVariants.{Access, Literal as Number}
use Rattle.stream_tokens.specs.declared.Token.{Token}
use Rattle.stream_tokens.specs.declared.Token.TheVariants.{Item, Empty, Stop, Done}
use Rattle.stream_model.specs.declared.labels.Side.TheVariants.{Left, Right}
use Rattle.stream_model.specs.declared.labels.Tree.{Tree}
use Rattle.stream_model.specs.declared.labels.Tree.TheVariants.{Root, Product, Reduced, Joined, Beside}
use Rattle.stream_model.specs.declared.labels.Attr.{Attr}
use Rattle.stream_model.specs.declared.labels.Attr.TheVariants.{Coordinate, Rank, FactorValue, Partial, Whole, Value, Present, SideValue, Literal}
use Rattle.stream_model.specs.declared.labels.Label.{Label}
use Rattle.stream_model.specs.Labels.{label_stream}
use Rattle.stream_model.specs.Texts.{text_of_label}
use Rattle.std.specs.Fmt.{digits}
use Rattle.stream_model.proofs.Rows.{tensor, vector, entries, term, program, b_of_i, c_of_i, two_vectors, matrix_vector}

abbrev label : Tree → Attr → Label
label tree attr = record { tree = tree; attr = attr }

-- plain-product: x(i) = b(i) * c(i)
abbrev product : Program
product = two_vectors (term false (b_of_i ∷ c_of_i ∷ []) ∷ [])

abbrev product_files : List Entries
product_files = entries 1 (0 ∷ 2 ∷ []) (2 ∷ 5 ∷ []) ∷ entries 1 (2 ∷ 3 ∷ []) (7 ∷ 1 ∷ []) ∷ []

abbrev product_streams : List Label → List (List Token)
product_streams labels = map (label_stream product product_files) labels

product-scans :
    product_streams
    (label Root (Literal 0) ∷ label (Product 0 1 1) Coordinate ∷ label (Product 0 1 1) (Rank 0)
    ∷ label (Product 0 1 2) Coordinate ∷ label (Product 0 1 2) (Rank 1) ∷ [])
    ≡ (Item 0 ∷ Done ∷ []) ∷ (Item 0 ∷ Item 2 ∷ Stop 0 ∷ Done ∷ []) ∷ (Item 0 ∷ Item 1 ∷ Stop 0 ∷ Done ∷ [])
    ∷ (Item 2 ∷ Item 3 ∷ Stop 0 ∷ Done ∷ []) ∷ (Item 0 ∷ Item 1 ∷ Stop 0 ∷ Done ∷ []) ∷ []
product-scans = refl

product-meet :
    product_streams
    (label (Product 0 1 3) Coordinate ∷ label (Product 0 1 3) (Rank 0) ∷ label (Product 0 1 3) (Rank 1)
    ∷ label (Product 0 1 3) (FactorValue 0) ∷ label (Product 0 1 3) (FactorValue 1) ∷ label (Product 0 1 3) (Partial 2)
    ∷ label (Product 0 1 3) (Literal 9) ∷ label (Reduced 0 0 1 1) Coordinate ∷ label (Reduced 0 0 1 1) Value ∷ [])
    ≡ (Item 2 ∷ Stop 0 ∷ Done ∷ []) ∷ (Item 1 ∷ Stop 0 ∷ Done ∷ []) ∷ (Item 0 ∷ Stop 0 ∷ Done ∷ [])
    ∷ (Item 5 ∷ Stop 0 ∷ Done ∷ []) ∷ (Item 7 ∷ Stop 0 ∷ Done ∷ []) ∷ (Item 35 ∷ Stop 0 ∷ Done ∷ [])
    ∷ (Item 9 ∷ Stop 0 ∷ Done ∷ []) ∷ (Item 2 ∷ Stop 0 ∷ Done ∷ []) ∷ (Item 35 ∷ Stop 0 ∷ Done ∷ []) ∷ []
product-meet = refl

-- two vectors that have no coordinate in common, and one without an entry
nothing-in-common :
    label_stream product (entries 1 (0 ∷ []) (2 ∷ []) ∷ entries 1 (2 ∷ []) (7 ∷ []) ∷ []) (label (Product 0 1 3) Coordinate) ≡ Stop 0 ∷ Done ∷ []
nothing-in-common = refl

empty-vector :
    label_stream product (entries 1 [] [] ∷ entries 1 (2 ∷ []) (7 ∷ []) ∷ []) (label (Product 0 1 1) (Rank 0)) ≡ Stop 0 ∷ Done ∷ []
empty-vector = refl

-- matrix-vector: x(i) = B(i,j) * c(j)
abbrev matrix_files : List Entries
matrix_files = entries 2 (0 ∷ 0 ∷ 0 ∷ 2 ∷ 2 ∷ 1 ∷ []) (2 ∷ 4 ∷ 5 ∷ []) ∷ entries 1 (0 ∷ 1 ∷ []) (3 ∷ 1 ∷ []) ∷ []

abbrev matrix_streams : List Label → List (List Token)
matrix_streams labels = map (label_stream matrix_vector matrix_files) labels

-- B's rows are dense, so all are there
matrix-scans :
    matrix_streams
    (label (Product 0 1 1) Coordinate ∷ label (Product 0 1 1) (Rank 0) ∷ label (Product 0 1 1) (Rank 1)
    ∷ label (Product 0 2 1) Coordinate ∷ label (Product 0 2 1) (Rank 0) ∷ label (Product 0 2 2) Coordinate
    ∷ label (Product 0 2 3) Coordinate ∷ label (Product 0 2 3) (Rank 0) ∷ [])
    ≡ (Item 0 ∷ Item 1 ∷ Item 2 ∷ Stop 0 ∷ Done ∷ []) ∷ (Item 0 ∷ Item 1 ∷ Item 2 ∷ Stop 0 ∷ Done ∷ [])
    ∷ (Item 0 ∷ Item 0 ∷ Item 0 ∷ Stop 0 ∷ Done ∷ [])
    ∷ (Item 0 ∷ Item 2 ∷ Stop 0 ∷ Stop 0 ∷ Item 1 ∷ Stop 1 ∷ Done ∷ [])
    ∷ (Item 0 ∷ Item 1 ∷ Stop 0 ∷ Stop 0 ∷ Item 2 ∷ Stop 1 ∷ Done ∷ [])
    ∷ (Item 0 ∷ Item 1 ∷ Stop 0 ∷ Item 0 ∷ Item 1 ∷ Stop 0 ∷ Item 0 ∷ Item 1 ∷ Stop 1 ∷ Done ∷ [])
    ∷ (Item 0 ∷ Stop 0 ∷ Stop 0 ∷ Item 1 ∷ Stop 1 ∷ Done ∷ [])
    ∷ (Item 0 ∷ Stop 0 ∷ Stop 0 ∷ Item 2 ∷ Stop 1 ∷ Done ∷ []) ∷ []
matrix-scans = refl

-- the sum of row 1, which has no entry beside c's, is absent and then dropped
matrix-sums :
    matrix_streams
    (label (Product 0 2 3) (Partial 2) ∷ label (Reduced 0 1 9 1) Coordinate ∷ label (Reduced 0 1 9 1) Value
    ∷ label (Reduced 0 1 1 1) Coordinate ∷ label (Reduced 0 1 1 1) Value ∷ [])
    ≡ (Item 6 ∷ Stop 0 ∷ Stop 0 ∷ Item 5 ∷ Stop 1 ∷ Done ∷ []) ∷ (Item 0 ∷ Item 1 ∷ Item 2 ∷ Stop 0 ∷ Done ∷ [])
    ∷ (Item 6 ∷ Empty ∷ Item 5 ∷ Stop 0 ∷ Done ∷ [])
    ∷ (Item 0 ∷ Item 2 ∷ Stop 0 ∷ Done ∷ []) ∷ (Item 6 ∷ Item 5 ∷ Stop 0 ∷ Done ∷ []) ∷ []
matrix-sums = refl

-- trailing-dense: a stored row of a dense last level has all its coordinates
abbrev trailing : Program
trailing =
    program (tensor (2 ∷ 2 ∷ []) (Compressed ∷ Dense ∷ []) (0 ∷ 1 ∷ []) ∷ [])
    (tensor (2 ∷ 2 ∷ []) (Compressed ∷ Compressed ∷ []) (0 ∷ 1 ∷ [])) (0 ∷ 1 ∷ [])
    (term false (Access 0 (0 ∷ 1 ∷ []) ∷ []) ∷ []) (2 ∷ 2 ∷ [])

trailing-streams :
    map (label_stream trailing (entries 2 (1 ∷ 0 ∷ []) (4 ∷ []) ∷ []))
    (label (Product 0 1 1) Coordinate ∷ label (Product 0 2 1) Coordinate ∷ label (Product 0 2 1) (FactorValue 0) ∷ [])
    ≡ (Item 1 ∷ Stop 0 ∷ Done ∷ []) ∷ (Item 0 ∷ Item 1 ∷ Stop 1 ∷ Done ∷ []) ∷ (Item 4 ∷ Item 0 ∷ Stop 1 ∷ Done ∷ []) ∷ []
trailing-streams = refl

-- a tensor without an entry, over two levels
trailing-nothing :
    map (label_stream trailing (entries 2 [] [] ∷ []))
    (label (Product 0 1 1) Coordinate ∷ label (Product 0 2 1) Coordinate ∷ label (Reduced 0 0 1 2) Value ∷ [])
    ≡ (Stop 0 ∷ Done ∷ []) ∷ (Stop 1 ∷ Done ∷ []) ∷ (Stop 1 ∷ Done ∷ []) ∷ []
trailing-nothing = refl

-- cancelled-sum: x(i) = b(i) - c(i)
cancelled-sum :
    map (label_stream (two_vectors (term false (b_of_i ∷ []) ∷ term true (c_of_i ∷ []) ∷ [])) (entries 1 (0 ∷ []) (5 ∷ []) ∷ entries 1 (0 ∷ []) (5 ∷ []) ∷ []))
    (label (Joined 1 1) Coordinate ∷ label (Joined 1 1) (SideValue Left) ∷ label (Joined 1 1) (SideValue Right) ∷ label (Joined 1 1) Value ∷ [])
    ≡ (Item 0 ∷ Stop 0 ∷ Done ∷ []) ∷ (Item 5 ∷ Stop 0 ∷ Done ∷ []) ∷ (Item 5 ∷ Stop 0 ∷ Done ∷ []) ∷ (Item 0 ∷ Stop 0 ∷ Done ∷ []) ∷ []
cancelled-sum = refl

-- sum-with-reduction: x(i) = b(i) - C(i,j) * d(j); row 0 of C has no coordinate of d, so its sum is dropped before the join
abbrev reduced : Program
reduced =
    program (vector 3 ∷ tensor (3 ∷ 3 ∷ []) (Compressed ∷ Compressed ∷ []) (0 ∷ 1 ∷ []) ∷ vector 3 ∷ []) (vector 3) (0 ∷ [])
    (term false (b_of_i ∷ []) ∷ term true (Access 1 (0 ∷ 1 ∷ []) ∷ Access 2 (1 ∷ []) ∷ []) ∷ []) (3 ∷ 3 ∷ [])

abbrev reduced_files : List Entries
reduced_files = entries 1 (1 ∷ 2 ∷ []) (1 ∷ 4 ∷ []) ∷ entries 2 (0 ∷ 0 ∷ 1 ∷ 1 ∷ []) (2 ∷ 3 ∷ []) ∷ entries 1 (1 ∷ []) (5 ∷ []) ∷ []

reduced-streams :
    map (label_stream reduced reduced_files)
    (label (Reduced 1 1 9 1) Coordinate ∷ label (Reduced 1 1 9 1) Value ∷ label (Reduced 1 1 1 1) Coordinate
    ∷ label (Joined 1 1) Coordinate ∷ label (Joined 1 1) (Present Right) ∷ label (Joined 1 1) (SideValue Left)
    ∷ label (Joined 1 1) (SideValue Right) ∷ label (Joined 1 1) Value ∷ [])
    ≡ (Item 0 ∷ Item 1 ∷ Stop 0 ∷ Done ∷ []) ∷ (Empty ∷ Item 15 ∷ Stop 0 ∷ Done ∷ []) ∷ (Item 1 ∷ Stop 0 ∷ Done ∷ [])
    ∷ (Item 1 ∷ Item 2 ∷ Stop 0 ∷ Done ∷ []) ∷ (Item 1 ∷ Empty ∷ Stop 0 ∷ Done ∷ []) ∷ (Item 1 ∷ Item 4 ∷ Stop 0 ∷ Done ∷ [])
    ∷ (Item 15 ∷ Empty ∷ Stop 0 ∷ Done ∷ []) ∷ (Item (2 ^ 64 - 14) ∷ Item 4 ∷ Stop 0 ∷ Done ∷ []) ∷ []
reduced-streams = refl

-- long-empty-runs: X(i,j) = B(i,j) + C(i,j), row 0 of C and row 2 of B
abbrev two_matrices : Program
two_matrices =
    program (tensor (3 ∷ 2 ∷ []) (Dense ∷ Compressed ∷ []) (0 ∷ 1 ∷ []) ∷ tensor (3 ∷ 2 ∷ []) (Dense ∷ Compressed ∷ []) (0 ∷ 1 ∷ []) ∷ [])
    (tensor (3 ∷ 2 ∷ []) (Compressed ∷ Compressed ∷ []) (0 ∷ 1 ∷ [])) (0 ∷ 1 ∷ [])
    (term false (Access 0 (0 ∷ 1 ∷ []) ∷ []) ∷ term false (Access 1 (0 ∷ 1 ∷ []) ∷ []) ∷ []) (3 ∷ 2 ∷ [])

matrices-streams :
    map (label_stream two_matrices (entries 2 (2 ∷ 0 ∷ []) (4 ∷ []) ∷ entries 2 (0 ∷ 1 ∷ []) (7 ∷ []) ∷ []))
    (label (Reduced 0 0 2 2) Coordinate ∷ label (Reduced 0 0 1 1) Coordinate ∷ label (Reduced 0 0 1 2) Coordinate
    ∷ label (Joined 1 1) Coordinate ∷ label (Joined 1 1) (Present Left) ∷ label (Beside 1 Left 2) Coordinate
    ∷ label (Beside 1 Left 2) Value ∷ label (Beside 1 Right 2) Coordinate ∷ label (Joined 1 2) Coordinate
    ∷ label (Joined 1 2) (SideValue Left) ∷ label (Joined 1 2) Value ∷ [])
    ≡ (Stop 0 ∷ Stop 0 ∷ Item 0 ∷ Stop 1 ∷ Done ∷ []) ∷ (Item 2 ∷ Stop 0 ∷ Done ∷ []) ∷ (Item 0 ∷ Stop 1 ∷ Done ∷ [])
    ∷ (Item 0 ∷ Item 2 ∷ Stop 0 ∷ Done ∷ []) ∷ (Empty ∷ Item 1 ∷ Stop 0 ∷ Done ∷ []) ∷ (Stop 0 ∷ Item 0 ∷ Stop 1 ∷ Done ∷ [])
    ∷ (Stop 0 ∷ Item 4 ∷ Stop 1 ∷ Done ∷ []) ∷ (Item 1 ∷ Stop 0 ∷ Stop 1 ∷ Done ∷ []) ∷ (Item 1 ∷ Stop 0 ∷ Item 0 ∷ Stop 1 ∷ Done ∷ [])
    ∷ (Empty ∷ Stop 0 ∷ Item 4 ∷ Stop 1 ∷ Done ∷ []) ∷ (Item 7 ∷ Stop 0 ∷ Item 4 ∷ Stop 1 ∷ Done ∷ []) ∷ []
matrices-streams = refl

-- literals: x(i) = -2 * b(i) + c(i) * 3; the first term's sign is in its coefficient
literals-streams :
    map
    (label_stream (two_vectors (term true (Number 2 ∷ b_of_i ∷ []) ∷ term false (c_of_i ∷ Number 3 ∷ []) ∷ []))
    (entries 1 (0 ∷ []) (4 ∷ []) ∷ entries 1 (1 ∷ []) (5 ∷ []) ∷ []))
    (label (Product 0 1 1) Whole ∷ label (Product 1 1 1) Whole ∷ label (Joined 1 1) Value ∷ [])
    ≡ (Item (2 ^ 64 - 8) ∷ Stop 0 ∷ Done ∷ []) ∷ (Item 15 ∷ Stop 0 ∷ Done ∷ []) ∷ (Item (2 ^ 64 - 8) ∷ Item 15 ∷ Stop 0 ∷ Done ∷ []) ∷ []
literals-streams = refl

-- scalar-result: x = b(i) * c(i); where no tuple is stored, the sum is absent
abbrev dot : Program
dot = program (vector 4 ∷ vector 4 ∷ []) (tensor [] [] []) [] (term false (b_of_i ∷ c_of_i ∷ []) ∷ []) (4 ∷ [])

dot-streams : label_stream dot product_files (label (Reduced 0 1 9 0) Value) ≡ Item 35 ∷ Done ∷ []
dot-streams = refl

dot-nothing :
    label_stream dot (entries 1 (0 ∷ []) (2 ∷ []) ∷ entries 1 (2 ∷ []) (7 ∷ []) ∷ []) (label (Reduced 0 1 9 0) Value) ≡ Empty ∷ Done ∷ []
dot-nothing = refl

-- texts
label-texts :
    map text_of_label
    (label Root (Literal 0) ∷ label (Product 0 1 1) (Rank 0) ∷ label (Reduced 0 0 1 1) Coordinate ∷ label (Beside 1 Left 2) Value
    ∷ label (Joined 1 2) (SideValue Right) ∷ [])
    ≡ codes "root" ∷ codes "product 0 1 1 rank 0" ∷ codes "reduced 0 0 1 1 coordinate" ∷ codes "beside 1 left 2 value"
    ∷ codes "joined 1 2 value right" ∷ []
unfolding digits
label-texts = refl
