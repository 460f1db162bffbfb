-- Expressions evaluated: what they denote, where they are found, and the terms that they expand to.
use Rattle.std.specs.Prelude.{◌≡◌, ℕ, ◌-◌, ◌^◌, Bool, true, false, List, [], ◌∷◌, refl}
use mathlib.Core.List.{map}
use Rattle.sam_model.specs.declared.tensors.Format.TheVariants.{Compressed}
use Rattle.sam_model.specs.declared.tensors.Tensor.{Tensor}
use Rattle.sam_model.specs.declared.tensors.Entries.{Entries}
use Rattle.sam_model.specs.declared.program.Factor.{Factor}
use Rattle.sam_model.specs.declared.program.Factor.TheVariants as factor
use Rattle.sam_model.specs.declared.program.Program.{Program}
use Rattle.sam_model.specs.Trees.{ExprTree, Access, Literal, Times, Plus, Minus, Negate, Sum, TopTree}
use Rattle.sam_model.specs.Denote.{den, pat}
use Rattle.sam_model.specs.Expressions.{denoted, found, expanded, expanded_tops}
use Rattle.sam_model.specs.Statement.{statement_entries}
use Rattle.sam_model.proofs.Rows.{tensor, vector, entries, plus, minus_term, program}

-- what a statement denotes at the coordinates of a vector, each with whether it is found
abbrev row : List Tensor → List Entries → List ℕ → List TopTree → List ℕ → List (ℕ × Bool)
row tensors es sizes tops xs = map (λ i. (denoted tensors es sizes (0 ∷ []) tops (i ∷ []), found tensors es sizes (0 ∷ []) tops (i ∷ []))) xs

-- the same of its terms
abbrev term_row : List Tensor → List Entries → List ℕ → List TopTree → List ℕ → List (ℕ × Bool)
term_row tensors es sizes tops xs =
    let p : Program = program tensors (vector 4) (0 ∷ []) (expanded_tops sizes tops) sizes in map (λ i. (den p es (i ∷ []), pat p es (i ∷ []))) xs

abbrev top : ExprTree → List ℕ → TopTree
top body implied = record { minus = false; body = body; implied = implied }

abbrev minus_top : ExprTree → List ℕ → TopTree
minus_top body implied = record { minus = true; body = body; implied = implied }

abbrev fb : Factor
fb = factor.Access 0 (0 ∷ [])

abbrev fc : Factor
fc = factor.Access 1 (0 ∷ [])

abbrev fB : Factor
fB = factor.Access 0 (0 ∷ 1 ∷ [])

abbrev fd : Factor
fd = factor.Access 1 (0 ∷ [])

abbrev fdk : Factor
fdk = factor.Access 1 (2 ∷ [])

abbrev times : ExprTree → ExprTree → ExprTree
times a b = Times a b

abbrev add : ExprTree → ExprTree → ExprTree
add a b = Plus a b

abbrev sub : ExprTree → ExprTree → ExprTree
sub a b = Minus a b

abbrev negate : ExprTree → ExprTree
negate a = Negate a

abbrev sum : ℕ → ExprTree → ExprTree
sum k a = Sum k a

-- ---- vectors b and c of 4

abbrev vectors : List Tensor
vectors = vector 4 ∷ vector 4 ∷ []

abbrev vector_files : List Entries
vector_files = entries 1 (0 ∷ 2 ∷ []) (2 ∷ 5 ∷ []) ∷ entries 1 (2 ∷ 3 ∷ []) (7 ∷ 1 ∷ []) ∷ []

abbrev b : ExprTree
b = Access 0 (0 ∷ [])

abbrev c : ExprTree
c = Access 1 (0 ∷ [])

-- x(i) = (b(i) + c(i)) * (b(i) - c(i))
abbrev squares : List TopTree
squares = top (times (add b c) (sub b c)) [] ∷ []

squares-row :
    row vectors vector_files (4 ∷ []) squares (0 ∷ 1 ∷ 2 ∷ 3 ∷ [])
    ≡ (4, true) ∷ (0, false) ∷ (2 ^ 64 - 24, true) ∷ (2 ^ 64 - 1, true) ∷ []
squares-row = refl

squares-terms :
    expanded (4 ∷ []) (times (add b c) (sub b c))
    ≡ plus (fb ∷ fb ∷ []) ∷ minus_term (fb ∷ fc ∷ []) ∷ plus (fc ∷ fb ∷ []) ∷ minus_term (fc ∷ fc ∷ []) ∷ []
squares-terms = refl

squares-same : term_row vectors vector_files (4 ∷ []) squares (0 ∷ 1 ∷ 2 ∷ 3 ∷ []) ≡ row vectors vector_files (4 ∷ []) squares (0 ∷ 1 ∷ 2 ∷ 3 ∷ [])
squares-same = refl

-- the same as the statement of a program
squares-entries :
    statement_entries (record (program vectors (vector 4) (0 ∷ []) [] (4 ∷ [])) { tops = squares }) vector_files
    ≡ (0 ∷ [], 4) ∷ (2 ∷ [], 2 ^ 64 - 24) ∷ (3 ∷ [], 2 ^ 64 - 1) ∷ []
squares-entries = refl

-- x(i) = (b(i))
copy-row : row vectors vector_files (4 ∷ []) (top b [] ∷ []) (0 ∷ 1 ∷ 2 ∷ 3 ∷ []) ≡ (2, true) ∷ (0, false) ∷ (5, true) ∷ (0, false) ∷ []
copy-row = refl

-- x(i) = (b(i) - b(i)): a sum that cancels is found
cancelled-row : row vectors vector_files (4 ∷ []) (top (sub b b) [] ∷ []) (0 ∷ 1 ∷ []) ≡ (0, true) ∷ (0, false) ∷ []
cancelled-row = refl

-- x(i) = 3 * (b(i) - 1): a literal is everywhere
literal-row :
    row vectors vector_files (4 ∷ []) (top (times (Literal 3) (sub b (Literal 1))) [] ∷ []) (0 ∷ 1 ∷ []) ≡ (3, true) ∷ (2 ^ 64 - 3, true) ∷ []
literal-row = refl

-- a negated product, and products of negated factors
negated-row : row vectors vector_files (4 ∷ []) (top (negate (times b c)) [] ∷ []) (2 ∷ 3 ∷ []) ≡ (2 ^ 64 - 35, true) ∷ (0, false) ∷ []
negated-row = refl

negated-terms : expanded (4 ∷ []) (negate (times b c)) ≡ minus_term (fb ∷ fc ∷ []) ∷ []
negated-terms = refl

negated-left : expanded (4 ∷ []) (times (negate b) c) ≡ minus_term (fb ∷ fc ∷ []) ∷ []
negated-left = refl

negated-both : expanded (4 ∷ []) (times (negate b) (negate c)) ≡ plus (fb ∷ fc ∷ []) ∷ []
negated-both = refl

subtracted : expanded_tops (4 ∷ []) (minus_top (sub b c) [] ∷ []) ≡ minus_term (fb ∷ []) ∷ plus (fc ∷ []) ∷ []
subtracted = refl

-- ---- a matrix B, 2 by 3, and a vector d of 2; the variables are i, j, k with the sizes 2, 3, 2

abbrev sizes : List ℕ
sizes = 2 ∷ 3 ∷ 2 ∷ []

abbrev matrix : List Tensor
matrix = tensor (2 ∷ 3 ∷ []) (Compressed ∷ Compressed ∷ []) (0 ∷ 1 ∷ []) ∷ vector 2 ∷ []

abbrev matrix_files : List Entries
matrix_files = entries 2 (0 ∷ 0 ∷ []) (4 ∷ []) ∷ entries 1 (0 ∷ 1 ∷ []) (2 ∷ 5 ∷ []) ∷ []

abbrev matrix_row : List TopTree → List (ℕ × Bool)
matrix_row tops = row matrix matrix_files sizes tops (0 ∷ 1 ∷ [])

abbrev matrix_terms : List TopTree → List (ℕ × Bool)
matrix_terms tops = term_row matrix matrix_files sizes tops (0 ∷ 1 ∷ [])

abbrev B_of_ij : ExprTree
B_of_ij = Access 0 (0 ∷ 1 ∷ [])

abbrev d_of_i : ExprTree
d_of_i = Access 1 (0 ∷ [])

abbrev d_of_k : ExprTree
d_of_k = Access 1 (2 ∷ [])

-- x(i) = sum(j, B(i,j) + d(i)), and x(i) = (B(i,j) + d(i)), where j is implied
abbrev whole : List TopTree
whole = top (sum 1 (add B_of_ij d_of_i)) [] ∷ []

abbrev grouped : List TopTree
grouped = top (add B_of_ij d_of_i) (1 ∷ []) ∷ []

whole-row : matrix_row whole ≡ (10, true) ∷ (15, true) ∷ []
whole-row = refl

grouped-row : matrix_row grouped ≡ (10, true) ∷ (15, true) ∷ []
grouped-row = refl

whole-terms : expanded_tops sizes whole ≡ plus (fB ∷ []) ∷ plus (fd ∷ factor.Literal 3 ∷ []) ∷ []
whole-terms = refl

grouped-terms : expanded_tops sizes grouped ≡ expanded_tops sizes whole
grouped-terms = refl

whole-same : matrix_terms whole ≡ matrix_row whole
whole-same = refl

-- x(i) = B(i,j) + d(i): j is implied in the first term alone
abbrev apart : List TopTree
apart = top B_of_ij (1 ∷ []) ∷ top d_of_i [] ∷ []

apart-row : matrix_row apart ≡ (6, true) ∷ (5, true) ∷ []
apart-row = refl

apart-same : matrix_terms apart ≡ matrix_row apart
apart-same = refl

-- nested sums, and a product of sums
abbrev nested : List TopTree
nested = top (sum 1 (sum 2 (times B_of_ij d_of_k))) [] ∷ []

abbrev sums : List TopTree
sums = top (times (sum 1 B_of_ij) (sum 2 d_of_k)) [] ∷ []

nested-row : matrix_row nested ≡ (28, true) ∷ (0, false) ∷ []
nested-row = refl

sums-row : matrix_row sums ≡ (28, true) ∷ (0, false) ∷ []
sums-row = refl

nested-terms : expanded_tops sizes nested ≡ plus (fB ∷ fdk ∷ []) ∷ []
nested-terms = refl

sums-terms : expanded_tops sizes sums ≡ plus (fB ∷ fdk ∷ []) ∷ []
sums-terms = refl

nested-same : matrix_terms nested ≡ matrix_row nested
nested-same = refl

-- sums over variables that the body lacks
abbrev constant : List TopTree
constant = top (sum 1 (sum 2 d_of_i)) [] ∷ []

constant-row : matrix_row constant ≡ (12, true) ∷ (30, true) ∷ []
constant-row = refl

constant-terms : expanded_tops sizes constant ≡ plus (fd ∷ factor.Literal 2 ∷ factor.Literal 3 ∷ []) ∷ []
constant-terms = refl

constant-same : matrix_terms constant ≡ matrix_row constant
constant-same = refl

-- x(i) = -(B(i,j) * d(k) + d(i)), over both implied variables
abbrev both : List TopTree
both = minus_top (add (times B_of_ij d_of_k) d_of_i) (1 ∷ 2 ∷ []) ∷ []

both-row : matrix_row both ≡ (2 ^ 64 - 40, true) ∷ (2 ^ 64 - 30, true) ∷ []
both-row = refl

both-terms : expanded_tops sizes both ≡ minus_term (fB ∷ fdk ∷ []) ∷ minus_term (fd ∷ factor.Literal 3 ∷ factor.Literal 2 ∷ []) ∷ []
both-terms = refl

both-same : matrix_terms both ≡ matrix_row both
both-same = refl
