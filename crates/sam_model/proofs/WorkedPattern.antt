-- The pattern of results with dense levels, and statements after each other, evaluated.
use Rattle.std.specs.Prelude.{◌≡◌, ℕ, true, false, List, [], ◌∷◌, codes, refl}
use Rattle.std.specs.Fmt.{digits}
use Rattle.sam_model.specs.declared.tensors.Format.{Format}
use Rattle.sam_model.specs.declared.tensors.Format.TheVariants.{Dense, Compressed}
use Rattle.sam_model.specs.declared.tensors.Tensor.{Tensor}
use Rattle.sam_model.specs.declared.tensors.Entries.{Entries}
use Rattle.sam_model.specs.declared.program.Program.{Program}
use Rattle.sam_model.specs.Trees.{ExprTree, Access, Times, Plus, Minus}
use Rattle.sam_model.specs.Pattern.{closed, ends_dense}
use Rattle.sam_model.specs.Statement.{found_entries, statement_entries}
use Rattle.sam_model.specs.Chains.{and_result, chain_text}
use Rattle.sam_model.proofs.Rows.{tensor, vector, entries, program}

abbrev statement : List Tensor → Tensor → List ℕ → ExprTree → List ℕ → List ℕ → Program
statement tensors result left body implied sizes =
    record (program tensors result left [] sizes) { tops = record { minus = false; body = body; implied = implied } ∷ [] }

-- ---- x(i) = B(i,j) * c(j), where row 1 has nothing

abbrev matrix_vector : Format → Program
matrix_vector format =
    statement (tensor (3 ∷ 3 ∷ []) (Compressed ∷ Compressed ∷ []) (0 ∷ 1 ∷ []) ∷ vector 3 ∷ []) (tensor (3 ∷ []) (format ∷ []) (0 ∷ []))
    (0 ∷ []) (Times (Access 0 (0 ∷ 1 ∷ [])) (Access 1 (1 ∷ []))) (1 ∷ []) (3 ∷ 3 ∷ [])

abbrev matrix_files : List Entries
matrix_files = entries 2 (0 ∷ 1 ∷ 2 ∷ 1 ∷ []) (2 ∷ 5 ∷ []) ∷ entries 1 (1 ∷ []) (3 ∷ []) ∷ []

compressed-vector : statement_entries (matrix_vector Compressed) matrix_files ≡ (0 ∷ [], 6) ∷ (2 ∷ [], 15) ∷ []
compressed-vector = refl

dense-vector : statement_entries (matrix_vector Dense) matrix_files ≡ (0 ∷ [], 6) ∷ (1 ∷ [], 0) ∷ (2 ∷ [], 15) ∷ []
dense-vector = refl

-- ---- X(i,j) = B(i,j) of 2 by 2 with one entry, and an empty one

abbrev copy : Format → Format → Program
copy outer inner =
    statement (tensor (2 ∷ 2 ∷ []) (Compressed ∷ Compressed ∷ []) (0 ∷ 1 ∷ []) ∷ []) (tensor (2 ∷ 2 ∷ []) (outer ∷ inner ∷ []) (0 ∷ 1 ∷ []))
    (0 ∷ 1 ∷ []) (Access 0 (0 ∷ 1 ∷ [])) [] (2 ∷ 2 ∷ [])

abbrev one : List Entries
one = entries 2 (1 ∷ 0 ∷ []) (4 ∷ []) ∷ []

abbrev none : List Entries
none = entries 2 [] [] ∷ []

found-alone : statement_entries (copy Compressed Compressed) one ≡ (1 ∷ 0 ∷ [], 4) ∷ []
found-alone = refl

dense-rows : statement_entries (copy Compressed Dense) one ≡ (1 ∷ 0 ∷ [], 4) ∷ (1 ∷ 1 ∷ [], 0) ∷ []
dense-rows = refl

dense-above : statement_entries (copy Dense Compressed) one ≡ (1 ∷ 0 ∷ [], 4) ∷ []
dense-above = refl

all-dense : statement_entries (copy Dense Dense) none ≡ (0 ∷ 0 ∷ [], 0) ∷ (0 ∷ 1 ∷ [], 0) ∷ (1 ∷ 0 ∷ [], 0) ∷ (1 ∷ 1 ∷ [], 0) ∷ []
all-dense = refl

no-rows : statement_entries (copy Compressed Dense) none ≡ []
no-rows = refl

same-closed : closed (copy Compressed Dense).result (found_entries (copy Compressed Dense) one) ≡ statement_entries (copy Compressed Dense) one
same-closed = refl

last-level : (ends_dense (copy Compressed Dense).result ≡ true) × (ends_dense (copy Dense Compressed).result ≡ false)
last-level = (refl, refl)

-- ---- x = b(i) * c(i): a result without dimensions lists what is found

abbrev dot : Program
dot =
    statement (vector 4 ∷ vector 4 ∷ []) (tensor [] [] []) [] (Times (Access 0 (0 ∷ [])) (Access 1 (0 ∷ []))) (0 ∷ []) (4 ∷ [])

abbrev vector_files : List Entries
vector_files = entries 1 (0 ∷ 2 ∷ []) (2 ∷ 5 ∷ []) ∷ entries 1 (2 ∷ 3 ∷ []) (7 ∷ 1 ∷ []) ∷ []

dot-listed : statement_entries dot vector_files ≡ ([], 35) ∷ []
dot-listed = refl

dot-empty : statement_entries dot (entries 1 [] [] ∷ entries 1 [] [] ∷ []) ≡ []
dot-empty = refl

no-level : ends_dense dot.result ≡ false
no-level = refl

-- ---- y(i) = b(i) + c(i) or b(i) - b(i), and then x(i) = y(i) * b(i)

abbrev first_step : ExprTree → Program
first_step body = statement (vector 4 ∷ vector 4 ∷ []) (vector 4) (0 ∷ []) body [] (4 ∷ [])

abbrev second_step : Program
second_step =
    statement (and_result (vector 4) (vector 4 ∷ vector 4 ∷ []) (vector 4)) (vector 4) (0 ∷ [])
    (Times (Access 2 (0 ∷ [])) (Access 0 (0 ∷ []))) [] (4 ∷ [])

two-steps : chain_text (first_step (Plus (Access 0 (0 ∷ [])) (Access 1 (0 ∷ []))) ∷ second_step ∷ []) vector_files ≡ codes "1 4\n3 60\n"
unfolding digits
two-steps = refl

-- sums that cancel are entries of the next step
cancelled : chain_text (first_step (Minus (Access 0 (0 ∷ [])) (Access 0 (0 ∷ []))) ∷ second_step ∷ []) vector_files ≡ codes "1 0\n3 0\n"
unfolding digits
cancelled = refl
