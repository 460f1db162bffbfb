-- Accepted and refused programs, by hand.
use Rattle.std.proofs.Common.{◌≡◌, ℕ, true, false, List, [], ◌∷◌, refl, codes}
use Rattle.sam_model.specs.declared.tensors.Format.{Format}
use Rattle.sam_model.specs.declared.tensors.Format.TheVariants.{Dense, Compressed}
use Rattle.sam_model.specs.declared.tensors.Tensor.{Tensor}
use Rattle.sam_model.specs.declared.program.Factor.{Factor}
use Rattle.sam_model.specs.declared.program.Factor.TheVariants.{Access, Literal}
use Rattle.sam_model.specs.declared.program.Term.{Term}
use Rattle.sam_model.specs.declared.program.Program.{Program}
use Rattle.sam_model.specs.Trees.{ExprTree, TopTree}
use Rattle.sam_model.specs.Trees as expr
use Rattle.sam_model.specs.Accepted.{fits_by_terms, is_order, ascending, reduces}
use Rattle.sam_model.specs.Program.{same_terms, accepted}

abbrev tensor : List ℕ → List ℕ → List Format → List ℕ → Tensor
tensor name dims formats order = record { name = name; dims = dims; formats = formats; order = order; file = [] }

abbrev product : List Factor → Term
product factors = record { minus = false; factors = factors }

abbrev difference : List Factor → Term
difference factors = record { minus = true; factors = factors }

-- y(i) over B(i, j) and c(j), with loops i j
abbrev over_matrix : List ℕ → List ℕ → List Term → List TopTree → Program
over_matrix b_order sizes terms tops = record {
  tensors = tensor (codes "B") (3 ∷ 4 ∷ []) (Dense ∷ Compressed ∷ []) b_order ∷ tensor (codes "c") (4 ∷ []) (Compressed ∷ []) (0 ∷ [])
      ∷ tensor (codes "d") (3 ∷ []) (Compressed ∷ []) (0 ∷ []) ∷ [];
  result = tensor (codes "y") (3 ∷ []) (Compressed ∷ []) (0 ∷ []);
  left = 0 ∷ [];
  terms = terms;
  tops = tops;
  var_names = codes "i" ∷ codes "j" ∷ [];
  var_sizes = sizes;
}

-- y(i) = B(i, j) * c(j)
abbrev matrix_vector : List ℕ → List ℕ → List Factor → Program
matrix_vector b_order sizes factors = over_matrix b_order sizes (product factors ∷ []) []

abbrev factors : List Factor
factors = Access 0 (0 ∷ 1 ∷ []) ∷ Access 1 (1 ∷ []) ∷ []

fits : fits_by_terms (matrix_vector (0 ∷ 1 ∷ []) (3 ∷ 4 ∷ []) factors) ≡ true
fits = refl

wrong_size : fits_by_terms (matrix_vector (0 ∷ 1 ∷ []) (3 ∷ 5 ∷ []) factors) ≡ false
wrong_size = refl

against_the_loops : fits_by_terms (matrix_vector (1 ∷ 0 ∷ []) (3 ∷ 4 ∷ []) factors) ≡ false
against_the_loops = refl

no_permutation : fits_by_terms (matrix_vector (0 ∷ 0 ∷ []) (3 ∷ 4 ∷ []) factors) ≡ false
no_permutation = refl

no_such_tensor : fits_by_terms (matrix_vector (0 ∷ 1 ∷ []) (3 ∷ 4 ∷ []) (Access 0 (0 ∷ 1 ∷ []) ∷ Access 3 (1 ∷ []) ∷ [])) ≡ false
no_such_tensor = refl

unused_variable : fits_by_terms (matrix_vector (0 ∷ 1 ∷ []) (3 ∷ 4 ∷ []) (Literal 2 ∷ [])) ≡ false
unused_variable = refl

order : is_order 3 (2 ∷ 0 ∷ 1 ∷ []) ≡ true
order = refl

rising : ascending (0 ∷ 2 ∷ 2 ∷ []) ≡ false
rising = refl

-- X(h, i, j) with k first in the loops: three variables of the left come after k
too_deep : reduces (1 ∷ 2 ∷ 3 ∷ []) 0 ≡ false
too_deep = refl

-- ---- with their top-level terms

-- a program in these orders and sizes, with these terms and top-level terms
abbrev written : List Term → List TopTree → Program
written terms tops = over_matrix (0 ∷ 1 ∷ []) (3 ∷ 4 ∷ []) terms tops

abbrev top : ExprTree → List ℕ → TopTree
top body implied = record { minus = false; body = body; implied = implied }

-- equal terms, and terms that differ in one place
same_sign : same_terms (product factors ∷ difference (Literal 3 ∷ []) ∷ []) (product factors ∷ difference (Literal 3 ∷ []) ∷ []) ≡ true
same_sign = refl

other_sign : same_terms (product factors ∷ []) (difference factors ∷ []) ≡ false
other_sign = refl

other_number : same_terms (product (Literal 3 ∷ []) ∷ []) (product (Literal 4 ∷ []) ∷ []) ≡ false
other_number = refl

other_variable : same_terms (product (Access 0 (0 ∷ 1 ∷ []) ∷ []) ∷ []) (product (Access 0 (0 ∷ 2 ∷ []) ∷ []) ∷ []) ≡ false
other_variable = refl

one_more : same_terms (product factors ∷ []) (product factors ∷ product factors ∷ []) ≡ false
one_more = refl

abbrev B_of_ij : ExprTree
B_of_ij = expr.Access 0 (0 ∷ 1 ∷ [])

abbrev c_of_j : ExprTree
c_of_j = expr.Access 1 (1 ∷ [])

abbrev d_of_i : ExprTree
d_of_i = expr.Access 2 (0 ∷ [])

-- y(i) = B(i, j) * c(j)
abbrev times : List TopTree
times = top (expr.Times B_of_ij c_of_j) (1 ∷ []) ∷ []

product_accepted : accepted (written (product factors ∷ []) times) ≡ true
product_accepted = refl

other_order : accepted (written (product (Access 1 (1 ∷ []) ∷ Access 0 (0 ∷ 1 ∷ []) ∷ []) ∷ []) times) ≡ false
other_order = refl

turned : accepted (written (difference factors ∷ []) times) ≡ false
turned = refl

no_tops : accepted (written (product factors ∷ []) []) ≡ false
no_tops = refl

not_implied : accepted (written (product factors ∷ []) (top (expr.Times B_of_ij c_of_j) [] ∷ [])) ≡ false
not_implied = refl

on_the_left : accepted (written (product factors ∷ []) (top (expr.Times B_of_ij c_of_j) (0 ∷ 1 ∷ []) ∷ [])) ≡ false
on_the_left = refl

-- y(i) = sum(j, B(i, j) + d(i)) and y(i) = (B(i, j) + d(i)), whose second term has the size of j
abbrev sizes_times : ℕ → List Term
sizes_times n = product (Access 0 (0 ∷ 1 ∷ []) ∷ []) ∷ product (Access 2 (0 ∷ []) ∷ Literal n ∷ []) ∷ []

sum_accepted : accepted (written (sizes_times 4) (top (expr.Sum 1 (expr.Plus B_of_ij d_of_i)) [] ∷ [])) ≡ true
sum_accepted = refl

grouped_accepted : accepted (written (sizes_times 4) (top (expr.Plus B_of_ij d_of_i) (1 ∷ []) ∷ [])) ≡ true
grouped_accepted = refl

wrong_literal : accepted (written (sizes_times 5) (top (expr.Plus B_of_ij d_of_i) (1 ∷ []) ∷ [])) ≡ false
wrong_literal = refl

-- y(i) = sum(j, B(i, j)) * sum(j, B(i, j)): j is the variable of two sums
twice :
    accepted
    (written (product (Access 0 (0 ∷ 1 ∷ []) ∷ Access 0 (0 ∷ 1 ∷ []) ∷ []) ∷ []) (top (expr.Times (expr.Sum 1 B_of_ij) (expr.Sum 1 B_of_ij)) [] ∷ []))
    ≡ false
twice = refl

-- y(i) = sum(j, B(i, j)) + c(j) * d(i), as two top-level terms: each may have j in its own way
in_two_tops :
    accepted
    (written (product (Access 0 (0 ∷ 1 ∷ []) ∷ []) ∷ product (Access 1 (1 ∷ []) ∷ Access 2 (0 ∷ []) ∷ []) ∷ [])
    (top (expr.Sum 1 B_of_ij) [] ∷ top (expr.Times c_of_j d_of_i) (1 ∷ []) ∷ []))
    ≡ true
in_two_tops = refl
