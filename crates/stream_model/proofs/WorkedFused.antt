-- The streams of trees that several terms share, evaluated on worked rows.
use Rattle.std.proofs.Common.{◌≡◌, ◌-◌, ◌^◌, true, false, List, [], ◌∷◌, codes, refl}
use mathlib.Core.List.{map}
use Rattle.sam_model.specs.declared.tensors.Format.TheVariants.{Dense, Compressed}
use Rattle.sam_model.specs.declared.program.Program.{Program}
use Rattle.sam_model.specs.declared.program.Factor.TheVariants.{Access}
use Rattle.stream_tokens.specs.declared.Token.{Token}
use Rattle.stream_tokens.specs.declared.Token.TheVariants.{Item, Empty, Stop, Done}
use Rattle.stream_model.specs.declared.labels.Tree.{Tree}
use Rattle.stream_model.specs.declared.labels.Tree.TheVariants.{Across, Under, UnderReduced, UnderJoined}
use Rattle.stream_model.specs.declared.labels.Attr.{Attr}
use Rattle.stream_model.specs.declared.labels.Attr.TheVariants.{Coordinate, Rank, FactorValue, Partial, Whole, Value, Literal}
use Rattle.stream_model.specs.declared.labels.Label.{Label}
use Rattle.stream_model.specs.Fused.{shared_levels}
use Rattle.stream_model.specs.Labels.{label_stream}
use Rattle.stream_model.specs.Texts.{text_of_label}
use Rattle.std.specs.Fmt.{digits}
use Rattle.stream_model.proofs.Rows.{tensor, vector, entries, term, program, b_of_i, c_of_i, two_vectors, matrix_vector}

abbrev label : Tree → Attr → Label
label tree attr = record { tree = tree; attr = attr }

-- how many levels are shared: in x(i) = B(i,j) * c(j) with loops i, j; in x(j) = .. with the same loops; in X(i,j) = ..
shared : map shared_levels (matrix_vector ∷ record matrix_vector { left = 1 ∷ [] } ∷ record matrix_vector { left = 0 ∷ 1 ∷ [] } ∷ []) ≡ 1 ∷ 0 ∷ 2 ∷ []
shared = refl

-- x(i) = b(i) - c(i): the coordinates of both are united at once, and either has nothing where it lacks one
abbrev difference : Program
difference = two_vectors (term false (b_of_i ∷ []) ∷ term true (c_of_i ∷ []) ∷ [])

abbrev difference_streams : List Label → List (List Token)
difference_streams labels =
    map (label_stream difference (entries 1 (0 ∷ 2 ∷ []) (2 ∷ 5 ∷ []) ∷ entries 1 (2 ∷ 3 ∷ []) (7 ∷ 1 ∷ []) ∷ [])) labels

difference-scans :
    difference_streams
    (label (Under 0 1 1) Coordinate ∷ label (Under 0 1 1) (Rank 0) ∷ label (Under 1 1 1) Coordinate ∷ label (Under 1 1 1) (Rank 0) ∷ [])
    ≡ (Item 0 ∷ Item 2 ∷ Stop 0 ∷ Done ∷ []) ∷ (Item 0 ∷ Item 1 ∷ Stop 0 ∷ Done ∷ [])
    ∷ (Item 2 ∷ Item 3 ∷ Stop 0 ∷ Done ∷ []) ∷ (Item 0 ∷ Item 1 ∷ Stop 0 ∷ Done ∷ []) ∷ []
difference-scans = refl

difference-united :
    difference_streams
    (label (Across 1 0 1) Coordinate ∷ label (Across 1 0 1) (Rank 0) ∷ label (Across 1 1 1) (Rank 0)
    ∷ label (Across 1 0 1) (FactorValue 0) ∷ label (Across 1 1 1) (Partial 1) ∷ label (Across 1 1 1) (Literal 3) ∷ label (Across 0 0 1) Coordinate ∷ [])
    ≡ (Item 0 ∷ Item 2 ∷ Item 3 ∷ Stop 0 ∷ Done ∷ [])
    ∷ (Item 0 ∷ Item 1 ∷ Empty ∷ Stop 0 ∷ Done ∷ []) ∷ (Empty ∷ Item 0 ∷ Item 1 ∷ Stop 0 ∷ Done ∷ [])
    ∷ (Item 2 ∷ Item 5 ∷ Empty ∷ Stop 0 ∷ Done ∷ []) ∷ (Empty ∷ Item 7 ∷ Item 1 ∷ Stop 0 ∷ Done ∷ [])
    ∷ (Empty ∷ Item 3 ∷ Item 3 ∷ Stop 0 ∷ Done ∷ []) ∷ (Item 0 ∷ Item 2 ∷ Stop 0 ∷ Done ∷ []) ∷ []
difference-united = refl

difference-ends :
    difference_streams (label (UnderJoined 1 9 1) Value ∷ label (UnderJoined 1 1 1) Coordinate ∷ label (UnderJoined 1 1 1) Value ∷ [])
    ≡ (Item 2 ∷ Item (2 ^ 64 - 2) ∷ Item (2 ^ 64 - 1) ∷ Stop 0 ∷ Done ∷ [])
    ∷ (Item 0 ∷ Item 2 ∷ Item 3 ∷ Stop 0 ∷ Done ∷ [])
    ∷ (Item 2 ∷ Item (2 ^ 64 - 2) ∷ Item (2 ^ 64 - 1) ∷ Stop 0 ∷ Done ∷ []) ∷ []
difference-ends = refl

-- X(i,j) = B(i,j) + C(i,j), both dense by rows, with one entry in row 2 of B and one in row 0 of C: row 1 has nothing beneath
abbrev two_matrices : Program
two_matrices =
    program (tensor (3 ∷ 2 ∷ []) (Dense ∷ Compressed ∷ []) (0 ∷ 1 ∷ []) ∷ tensor (3 ∷ 2 ∷ []) (Dense ∷ Compressed ∷ []) (0 ∷ 1 ∷ []) ∷ [])
    (tensor (3 ∷ 2 ∷ []) (Compressed ∷ Compressed ∷ []) (0 ∷ 1 ∷ [])) (0 ∷ 1 ∷ [])
    (term false (Access 0 (0 ∷ 1 ∷ []) ∷ []) ∷ term false (Access 1 (0 ∷ 1 ∷ []) ∷ []) ∷ []) (3 ∷ 2 ∷ [])

abbrev matrices_streams : List Label → List (List Token)
matrices_streams labels = map (label_stream two_matrices (entries 2 (2 ∷ 0 ∷ []) (4 ∷ []) ∷ entries 2 (0 ∷ 1 ∷ []) (7 ∷ []) ∷ [])) labels

matrices-second-level :
    matrices_streams
    (label (Under 0 2 1) Coordinate ∷ label (Under 1 2 1) Coordinate ∷ label (Across 1 0 2) Coordinate
    ∷ label (Across 1 0 2) (Rank 0) ∷ label (Across 1 1 2) (Rank 0) ∷ [])
    ≡ (Stop 0 ∷ Stop 0 ∷ Item 0 ∷ Stop 1 ∷ Done ∷ []) ∷ (Item 1 ∷ Stop 0 ∷ Stop 0 ∷ Stop 1 ∷ Done ∷ [])
    ∷ (Item 1 ∷ Stop 0 ∷ Stop 0 ∷ Item 0 ∷ Stop 1 ∷ Done ∷ [])
    ∷ (Empty ∷ Stop 0 ∷ Stop 0 ∷ Item 0 ∷ Stop 1 ∷ Done ∷ []) ∷ (Item 0 ∷ Stop 0 ∷ Stop 0 ∷ Empty ∷ Stop 1 ∷ Done ∷ []) ∷ []
matrices-second-level = refl

matrices-ends :
    matrices_streams
    (label (UnderJoined 1 9 2) Value ∷ label (UnderJoined 1 2 2) Coordinate ∷ label (UnderJoined 1 2 1) Coordinate
    ∷ label (UnderJoined 1 1 1) Coordinate ∷ label (UnderJoined 1 1 2) Coordinate ∷ [])
    ≡ (Item 7 ∷ Stop 0 ∷ Stop 0 ∷ Item 4 ∷ Stop 1 ∷ Done ∷ []) ∷ (Item 1 ∷ Stop 0 ∷ Stop 0 ∷ Item 0 ∷ Stop 1 ∷ Done ∷ [])
    ∷ (Item 0 ∷ Item 1 ∷ Item 2 ∷ Stop 0 ∷ Done ∷ []) ∷ (Item 0 ∷ Item 2 ∷ Stop 0 ∷ Done ∷ [])
    ∷ (Item 1 ∷ Stop 0 ∷ Item 0 ∷ Stop 1 ∷ Done ∷ []) ∷ []
matrices-ends = refl

-- x(i) = b(i) - C(i,j) * d(j): the loop j of the second term lies beneath the shared level; row 0 of C has no coordinate of d, so its
-- sum is absent, and with b's lack of 0 nothing is left there
abbrev reduction : Program
reduction =
    program (vector 3 ∷ tensor (3 ∷ 3 ∷ []) (Compressed ∷ Compressed ∷ []) (0 ∷ 1 ∷ []) ∷ vector 3 ∷ []) (vector 3) (0 ∷ [])
    (term false (b_of_i ∷ []) ∷ term true (Access 1 (0 ∷ 1 ∷ []) ∷ Access 2 (1 ∷ []) ∷ []) ∷ []) (3 ∷ 3 ∷ [])

reduction-streams :
    map
    (label_stream reduction
    (entries 1 (1 ∷ 2 ∷ []) (1 ∷ 4 ∷ []) ∷ entries 2 (0 ∷ 0 ∷ 1 ∷ 1 ∷ []) (2 ∷ 3 ∷ []) ∷ entries 1 (1 ∷ []) (5 ∷ []) ∷ []))
    (label (Across 1 0 1) Coordinate ∷ label (Across 1 1 1) (Rank 0) ∷ label (Under 1 2 1) Coordinate ∷ label (Under 1 2 2) Coordinate
    ∷ label (Under 1 2 3) Coordinate ∷ label (Under 1 2 3) Whole ∷ label (UnderReduced 1 1 1) Value ∷ label (UnderReduced 0 0 1) Value
    ∷ label (UnderJoined 1 9 1) Value ∷ label (UnderJoined 1 1 1) Coordinate ∷ [])
    ≡ (Item 0 ∷ Item 1 ∷ Item 2 ∷ Stop 0 ∷ Done ∷ []) ∷ (Item 0 ∷ Item 1 ∷ Empty ∷ Stop 0 ∷ Done ∷ [])
    ∷ (Item 0 ∷ Stop 0 ∷ Item 1 ∷ Stop 0 ∷ Stop 1 ∷ Done ∷ []) ∷ (Item 1 ∷ Stop 0 ∷ Item 1 ∷ Stop 0 ∷ Stop 1 ∷ Done ∷ [])
    ∷ (Stop 0 ∷ Item 1 ∷ Stop 0 ∷ Stop 1 ∷ Done ∷ []) ∷ (Stop 0 ∷ Item 15 ∷ Stop 0 ∷ Stop 1 ∷ Done ∷ [])
    ∷ (Empty ∷ Item 15 ∷ Empty ∷ Stop 0 ∷ Done ∷ []) ∷ (Empty ∷ Item 1 ∷ Item 4 ∷ Stop 0 ∷ Done ∷ [])
    ∷ (Empty ∷ Item (2 ^ 64 - 14) ∷ Item 4 ∷ Stop 0 ∷ Done ∷ []) ∷ (Item 1 ∷ Item 2 ∷ Stop 0 ∷ Done ∷ []) ∷ []
reduction-streams = refl

-- nothing is stored in either
nothing :
    map (label_stream two_matrices (entries 2 [] [] ∷ entries 2 [] [] ∷ []))
    (label (Across 1 0 2) Coordinate ∷ label (UnderJoined 1 1 1) Coordinate ∷ label (UnderJoined 1 1 2) Value ∷ [])
    ≡ (Stop 0 ∷ Stop 0 ∷ Stop 1 ∷ Done ∷ []) ∷ (Stop 0 ∷ Done ∷ []) ∷ (Stop 1 ∷ Done ∷ []) ∷ []
nothing = refl

fused-label-texts :
    map text_of_label
    (label (Across 1 0 2) (Rank 0) ∷ label (Under 0 1 3) Coordinate ∷ label (UnderReduced 1 2 1) Value ∷ label (UnderJoined 1 9 2) Value ∷ [])
    ≡ codes "across 1 0 2 rank 0" ∷ codes "under 0 1 3 coordinate" ∷ codes "underreduced 1 2 1 value" ∷ codes "underjoined 1 9 2 value" ∷ []
unfolding digits
fused-label-texts = refl
