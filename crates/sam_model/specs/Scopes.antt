-- Which variables stand where in an expression, and which top-level terms fit a left side.
use Rattle.std.specs.Prelude.{ℕ, Bool, not, ◌&&◌, List, [], ◌∷◌, ◌++◌, eqb, nat_lt}
use Rattle.std.specs.List.{filter, list_all}
use Rattle.sam_model.specs.Trees.{ExprTree, Access, Literal, Times, Plus, Minus, Negate, Sum, TopTree}
use Rattle.sam_model.specs.Lists.{below, is_in, same_list}
use Rattle.sam_model.specs.Accepted.{distinct}

-- the variables of the sums in an expression, an inner one before an outer one
abbrev pub bound_vars : ExprTree → List ℕ
bound_vars (Access n vars) = []
bound_vars (Literal n) = []
bound_vars (Times a b) = bound_vars a ++ bound_vars b
bound_vars (Plus a b) = bound_vars a ++ bound_vars b
bound_vars (Minus a b) = bound_vars a ++ bound_vars b
bound_vars (Negate a) = bound_vars a
bound_vars (Sum k a) = bound_vars a ++ k ∷ []

-- the variables of its accesses
abbrev pub used_vars : ExprTree → List ℕ
used_vars (Access n vars) = vars
used_vars (Literal n) = []
used_vars (Times a b) = used_vars a ++ used_vars b
used_vars (Plus a b) = used_vars a ++ used_vars b
used_vars (Minus a b) = used_vars a ++ used_vars b
used_vars (Negate a) = used_vars a
used_vars (Sum k a) = used_vars a

-- those of them that stand outside every sum over them
abbrev pub free_vars : ExprTree → List ℕ
free_vars (Access n vars) = vars
free_vars (Literal n) = []
free_vars (Times a b) = free_vars a ++ free_vars b
free_vars (Plus a b) = free_vars a ++ free_vars b
free_vars (Minus a b) = free_vars a ++ free_vars b
free_vars (Negate a) = free_vars a
free_vars (Sum k a) = filter (λ v. not (eqb v k)) (free_vars a)

-- no variable of the first is among the second
abbrev pub are_apart : List ℕ → List ℕ → Bool
are_apart vs ws = list_all (λ v. not (is_in v ws)) vs

-- each is one of so many variables
abbrev pub are_in_range : ℕ → List ℕ → Bool
are_in_range count vs = list_all (λ v. nat_lt v count) vs

-- a variable is implied: it is one of its accesses, and neither on the left nor that of a sum in it
abbrev pub is_implied : List ℕ → ExprTree → ℕ → Bool
is_implied left e v = is_in v (used_vars e) && (not (is_in v left) && not (is_in v (bound_vars e)))

-- the implied variables, ascending
abbrev pub implied_of : ℕ → List ℕ → ExprTree → List ℕ
implied_of count left e = filter (is_implied left e) (below count)

-- The variables are in range. That of a sum is that of no other sum, isn't on the left, and stands only inside its sum. The
-- implied variables are those that are to be implied.
abbrev pub top_fits : ℕ → List ℕ → TopTree → Bool
top_fits count left t =
    are_in_range count (used_vars t.body) && (are_in_range count (bound_vars t.body) && (distinct (bound_vars t.body)
    && (are_apart (bound_vars t.body) left && (are_apart (bound_vars t.body) (free_vars t.body)
    && same_list t.implied (implied_of count left t.body)))))
