-- The definitions evaluated on worked rows.
use Rattle.std.proofs.Common.{◌≡◌, ◌-◌, ◌^◌, true, false, List, [], ◌∷◌, codes, refl}
use mathlib.Core.List.{map}
use Rattle.sam_model.specs.declared.tensors.Format.TheVariants.{Dense, Compressed}
use Rattle.sam_model.specs.declared.program.Program.{Program}
use Rattle.sam_model.specs.declared.program.Factor.TheVariants.{Access, Literal}
use Rattle.sam_model.specs.declared.tensors.Entries.{Entries}
use Rattle.sam_model.specs.Tensors.{stored_as, rank_of}
use Rattle.sam_model.specs.Denote.{den, pat, result_entries}
use Rattle.sam_model.specs.ResultText.{entries_text}
use Rattle.std.specs.Fmt.{digits}
use Rattle.sam_model.proofs.Rows.{tensor, vector, entries, plus, minus_term, program, two_vectors, b_of_i, c_of_i}

-- plain-product: x(i) = b(i) * c(i)
abbrev product : Program
product = two_vectors (plus (b_of_i ∷ c_of_i ∷ []) ∷ [])

abbrev product_files : List Entries
product_files = entries 1 (0 ∷ 2 ∷ []) (2 ∷ 5 ∷ []) ∷ entries 1 (2 ∷ 3 ∷ []) (7 ∷ 1 ∷ []) ∷ []

product-den : map (den product product_files) ((0 ∷ []) ∷ (1 ∷ []) ∷ (2 ∷ []) ∷ (3 ∷ []) ∷ []) ≡ 0 ∷ 0 ∷ 35 ∷ 0 ∷ []
product-den = refl

product-pat : map (pat product product_files) ((0 ∷ []) ∷ (1 ∷ []) ∷ (2 ∷ []) ∷ (3 ∷ []) ∷ []) ≡ false ∷ false ∷ true ∷ false ∷ []
product-pat = refl

product-text : entries_text product product_files ≡ codes "3 35\n"
unfolding digits
product-text = refl

-- nothing-in-common
nothing-text : entries_text product (entries 1 (0 ∷ []) (2 ∷ []) ∷ entries 1 (2 ∷ []) (7 ∷ []) ∷ []) ≡ []
unfolding digits
nothing-text = refl

-- matrix-vector: x(i) = B(i,j) * c(j), B stored dense and then compressed
abbrev matrix_vector : Program
matrix_vector =
    program (tensor (3 ∷ 3 ∷ []) (Dense ∷ Compressed ∷ []) (0 ∷ 1 ∷ []) ∷ vector 3 ∷ []) (vector 3) (0 ∷ [])
    (plus (Access 0 (0 ∷ 1 ∷ []) ∷ Access 1 (1 ∷ []) ∷ []) ∷ []) (3 ∷ 3 ∷ [])

abbrev matrix_files : List Entries
matrix_files = entries 2 (0 ∷ 0 ∷ 0 ∷ 2 ∷ 2 ∷ 1 ∷ []) (2 ∷ 4 ∷ 5 ∷ []) ∷ entries 1 (0 ∷ 1 ∷ []) (3 ∷ 1 ∷ []) ∷ []

matrix-vector-entries : result_entries matrix_vector matrix_files ≡ ((0 ∷ []), 6) ∷ ((2 ∷ []), 5) ∷ []
matrix-vector-entries = refl

matrix-vector-text : entries_text matrix_vector matrix_files ≡ codes "1 6\n3 5\n"
unfolding digits
matrix-vector-text = refl

-- matrix-matrix, reduced by a matrix reducer: X(i,j) = B(i,k) * C(k,j) with loops k i j
abbrev matrix_matrix : Program
matrix_matrix =
    program
    (tensor (2 ∷ 2 ∷ []) (Compressed ∷ Compressed ∷ []) (1 ∷ 0 ∷ [])
    ∷ tensor (2 ∷ 2 ∷ []) (Compressed ∷ Compressed ∷ []) (0 ∷ 1 ∷ []) ∷ [])
    (tensor (2 ∷ 2 ∷ []) (Compressed ∷ Compressed ∷ []) (0 ∷ 1 ∷ [])) (1 ∷ 2 ∷ [])
    (plus (Access 0 (1 ∷ 0 ∷ []) ∷ Access 1 (0 ∷ 2 ∷ []) ∷ []) ∷ []) (2 ∷ 2 ∷ 2 ∷ [])

matrix-matrix-text :
    entries_text matrix_matrix
    (entries 2 (0 ∷ 0 ∷ 0 ∷ 1 ∷ 1 ∷ 1 ∷ []) (2 ∷ 3 ∷ 4 ∷ []) ∷ entries 2 (0 ∷ 0 ∷ 1 ∷ 0 ∷ 1 ∷ 1 ∷ []) (5 ∷ 6 ∷ 7 ∷ []) ∷ [])
    ≡ codes "1 1 28\n1 2 21\n2 1 24\n2 2 28\n"
unfolding digits
matrix-matrix-text = refl

-- cancelled-sum: x(i) = b(i) - c(i), a sum that cancels is stored
abbrev difference : Program
difference = two_vectors (plus (b_of_i ∷ []) ∷ minus_term (c_of_i ∷ []) ∷ [])

cancelled-entries : result_entries difference (entries 1 (0 ∷ []) (5 ∷ []) ∷ entries 1 (0 ∷ []) (5 ∷ []) ∷ []) ≡ ((0 ∷ []), 0) ∷ []
cancelled-entries = refl

-- wrapping-sum: x(i) = b(i) + c(i)
wrapping-text :
    entries_text (two_vectors (plus (b_of_i ∷ []) ∷ plus (c_of_i ∷ []) ∷ []))
    (entries 1 (0 ∷ []) ((2 ^ 63 - 1) ∷ []) ∷ entries 1 (0 ∷ []) (1 ∷ []) ∷ [])
    ≡ codes "1 -9223372036854775808\n"
unfolding digits
wrapping-text = refl

-- dense-operand: every coordinate of a dense vector is stored
abbrev dense_copy : Program
dense_copy =
    program (tensor (3 ∷ []) (Dense ∷ []) (0 ∷ []) ∷ []) (vector 3) (0 ∷ []) (plus (b_of_i ∷ []) ∷ []) (3 ∷ [])

dense-entries : result_entries dense_copy (entries 1 [] [] ∷ []) ≡ ((0 ∷ []), 0) ∷ ((1 ∷ []), 0) ∷ ((2 ∷ []), 0) ∷ []
dense-entries = refl

-- trailing-dense: a stored row of a dense last level is stored whole
abbrev trailing : Program
trailing =
    program (tensor (2 ∷ 2 ∷ []) (Compressed ∷ Dense ∷ []) (0 ∷ 1 ∷ []) ∷ [])
    (tensor (2 ∷ 2 ∷ []) (Compressed ∷ Compressed ∷ []) (0 ∷ 1 ∷ [])) (0 ∷ 1 ∷ [])
    (plus (Access 0 (0 ∷ 1 ∷ []) ∷ []) ∷ []) (2 ∷ 2 ∷ [])

trailing-text : entries_text trailing (entries 2 (1 ∷ 0 ∷ []) (4 ∷ []) ∷ []) ≡ codes "2 1 4\n2 2 0\n"
unfolding digits
trailing-text = refl

-- scalar-result: x = b(i) * c(i)
abbrev dot : Program
dot = program (vector 4 ∷ vector 4 ∷ []) (tensor [] [] []) [] (plus (b_of_i ∷ c_of_i ∷ []) ∷ []) (4 ∷ [])

dot-text : entries_text dot product_files ≡ codes "35\n"
unfolding digits
dot-text = refl

dot-nothing : entries_text dot (entries 1 (0 ∷ []) (2 ∷ []) ∷ entries 1 (2 ∷ []) (7 ∷ []) ∷ []) ≡ []
unfolding digits
dot-nothing = refl

-- sum-with-reduction: x(i) = b(i) - C(i,j) * d(j); coordinate 0 isn't stored
abbrev reduced : Program
reduced =
    program (vector 3 ∷ tensor (3 ∷ 3 ∷ []) (Compressed ∷ Compressed ∷ []) (0 ∷ 1 ∷ []) ∷ vector 3 ∷ []) (vector 3) (0 ∷ [])
    (plus (b_of_i ∷ []) ∷ minus_term (Access 1 (0 ∷ 1 ∷ []) ∷ Access 2 (1 ∷ []) ∷ []) ∷ []) (3 ∷ 3 ∷ [])

reduced-text :
    entries_text reduced
    (entries 1 (1 ∷ 2 ∷ []) (1 ∷ 4 ∷ []) ∷ entries 2 (0 ∷ 0 ∷ 1 ∷ 1 ∷ []) (2 ∷ 3 ∷ []) ∷ entries 1 (1 ∷ []) (5 ∷ []) ∷ [])
    ≡ codes "2 -14\n3 4\n"
unfolding digits
reduced-text = refl

-- literals: x(i) = -2 * b(i) + c(i) * 3
literals-text :
    entries_text (two_vectors (minus_term (Literal 2 ∷ b_of_i ∷ []) ∷ plus (c_of_i ∷ Literal 3 ∷ []) ∷ []))
    (entries 1 (0 ∷ []) (4 ∷ []) ∷ entries 1 (1 ∷ []) (5 ∷ []) ∷ [])
    ≡ codes "1 -8\n2 15\n"
unfolding digits
literals-text = refl

-- a copy whose entries repeat: x(i) = b(i)
repeated-entries :
    result_entries (program (vector 4 ∷ []) (vector 4) (0 ∷ []) (plus (b_of_i ∷ []) ∷ []) (4 ∷ [])) (entries 1 (0 ∷ 0 ∷ []) (2 ∷ 3 ∷ []) ∷ [])
    ≡ ((0 ∷ []), 5) ∷ []
repeated-entries = refl

-- ranks: the matrix with entries (0,1), (1,0), (1,2), (3,1), (3,3)
ranks :
    let a = stored_as (tensor (4 ∷ 4 ∷ []) (Compressed ∷ Compressed ∷ []) (0 ∷ 1 ∷ []))
    (entries 2 (0 ∷ 1 ∷ 1 ∷ 0 ∷ 1 ∷ 2 ∷ 3 ∷ 1 ∷ 3 ∷ 3 ∷ []) (1 ∷ 1 ∷ 1 ∷ 1 ∷ 1 ∷ [])) in
    map (rank_of a) ((0 ∷ []) ∷ (3 ∷ []) ∷ (1 ∷ 2 ∷ []) ∷ (3 ∷ 3 ∷ []) ∷ []) ≡ 0 ∷ 2 ∷ 2 ∷ 4 ∷ []
ranks = refl
