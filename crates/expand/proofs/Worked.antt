-- The definitions evaluated: how many terms top-level terms have, and which of them are products.
use Rattle.std.specs.Prelude.{◌≡◌, ℕ, true, false, List, [], ◌∷◌, refl}
use Rattle.sam_model.specs.Trees.{ExprTree, Access, Times, Plus, Sum, TopTree}
use Rattle.expand.specs.Counting.{term_count, have_long, top_terms}
use Rattle.expand.specs.Plain.{is_product}

-- variables i, j and k are 0, 1 and 2; i is on the left
abbrev B_of_ij : ExprTree
B_of_ij = Access 0 (0 ∷ 1 ∷ [])

abbrev d_of_i : ExprTree
d_of_i = Access 1 (0 ∷ [])

abbrev both : ExprTree
both = Plus B_of_ij d_of_i

abbrev over_j : ExprTree → ExprTree
over_j a = Sum 1 a

abbrev top : ExprTree → List ℕ → TopTree
top body implied = record { minus = false; body = body; implied = implied }

counted-product : term_count (Times both both) ≡ 4
counted-product = refl

abbrev eighth : ExprTree
eighth = Times (Times (Times d_of_i d_of_i) (Times d_of_i d_of_i)) (Times (Times d_of_i d_of_i) (Times d_of_i d_of_i))

eight-factors : have_long (top_terms (2 ∷ 3 ∷ []) (top eighth [])) ≡ false
eight-factors = refl

nine-factors : have_long (top_terms (2 ∷ 3 ∷ []) (top (over_j eighth) [])) ≡ true
nine-factors = refl

plain-product : is_product eighth ≡ true
plain-product = refl

plain-sum : is_product both ≡ false
plain-sum = refl
