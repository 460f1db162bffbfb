-- The scopes of expressions evaluated: which variables stand where, and which top-level terms fit a left side.
use Rattle.std.specs.Prelude.{◌≡◌, ℕ, true, false, List, [], ◌∷◌, refl}
use Rattle.sam_model.specs.Trees.{ExprTree, Access, Times, Plus, Sum, TopTree}
use Rattle.sam_model.specs.Scopes.{bound_vars, used_vars, free_vars, implied_of, top_fits}

-- variables i, j and k are 0, 1 and 2; i is on the left
abbrev B_of_ij : ExprTree
B_of_ij = Access 0 (0 ∷ 1 ∷ [])

abbrev d_of_i : ExprTree
d_of_i = Access 1 (0 ∷ [])

abbrev both : ExprTree
both = Plus B_of_ij d_of_i

abbrev over_j : ExprTree → ExprTree
over_j a = Sum 1 a

abbrev top : ExprTree → List ℕ → TopTree
top body implied = record { minus = false; body = body; implied = implied }

variables-used : used_vars (over_j both) ≡ 0 ∷ 1 ∷ 0 ∷ []
variables-used = refl

variables-free : free_vars (over_j both) ≡ 0 ∷ 0 ∷ []
variables-free = refl

variables-bound : bound_vars (over_j (Sum 2 both)) ≡ 2 ∷ 1 ∷ []
variables-bound = refl

implied-j : implied_of 3 (0 ∷ []) both ≡ 1 ∷ []
implied-j = refl

implied-none : implied_of 3 (0 ∷ []) (over_j both) ≡ []
implied-none = refl

implied-fits : top_fits 3 (0 ∷ []) (top both (1 ∷ [])) ≡ true
implied-fits = refl

summed-fits : top_fits 3 (0 ∷ []) (top (over_j both) []) ≡ true
summed-fits = refl

-- an implied variable that isn't listed
forgotten : top_fits 3 (0 ∷ []) (top both []) ≡ false
forgotten = refl

-- two sums over one variable
twice : top_fits 3 (0 ∷ []) (top (Times (over_j B_of_ij) (over_j B_of_ij)) []) ≡ false
twice = refl

-- a variable beside its sum
beside : top_fits 3 (0 ∷ []) (top (Plus (over_j B_of_ij) B_of_ij) []) ≡ false
beside = refl

-- a sum over a variable of the left
on_left : top_fits 3 (0 ∷ []) (top (Sum 0 both) (1 ∷ [])) ≡ false
on_left = refl

-- a variable out of range
outside : top_fits 1 (0 ∷ []) (top both (1 ∷ [])) ≡ false
outside = refl
