-- Expressions of the form that statements have: products of accesses and literals.
use Rattle.std.specs.Prelude.{Bool, true, false, ◌&&◌, List, [], ◌∷◌, ◌++◌}
use Rattle.sam_model.specs.declared.program.Factor.{Factor}
use Rattle.sam_model.specs.declared.program.Factor.TheVariants as factor
use Rattle.sam_model.specs.declared.program.Term.{Term}
use Rattle.sam_model.specs.Trees.{ExprTree, Access, Literal, Times, Plus, Minus, Negate, Sum, TopTree}

abbrev pub is_product : ExprTree → Bool
is_product (Access n vars) = true
is_product (Literal n) = true
is_product (Times a b) = is_product a && is_product b
is_product (Plus a b) = false
is_product (Minus a b) = false
is_product (Negate a) = false
is_product (Sum k a) = false

-- the factors of a product, in the order of its text
abbrev pub factors_of : ExprTree → List Factor
factors_of (Access n vars) = factor.Access n vars ∷ []
factors_of (Literal n) = factor.Literal n ∷ []
factors_of (Times a b) = factors_of a ++ factors_of b
factors_of (Plus a b) = []
factors_of (Minus a b) = []
factors_of (Negate a) = []
factors_of (Sum k a) = []

-- the term that a product is
abbrev pub term_of : TopTree → Term
term_of t = record { minus = t.minus; factors = factors_of t.body }
