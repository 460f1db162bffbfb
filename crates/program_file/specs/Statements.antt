-- The right side of a statement: its accesses and its sums, and its top-level terms by numbers.
use Rattle.std.specs.Prelude.{ℕ, ◌-◌, ◌^◌, min, List, [], ◌∷◌, ◌++◌, length}
use Rattle.std.specs.List.{flat_map}
use mathlib.Core.List.{map}
use Rattle.sam_model.specs.declared.tensors.Tensor.{Tensor}
use Rattle.sam_model.specs.Trees.{ExprTree, TopTree}
use Rattle.sam_model.specs.Trees as tree
use Rattle.sam_model.specs.Scopes.{implied_of}
use Rattle.notation.specs.declared.statement.AccessText.{AccessText}
use Rattle.notation.specs.declared.statement.Statement.{Statement}
use Rattle.notation.specs.Trees.{TextTree, Access, Literal, Times, Plus, Minus, Negate, Sum, TopTextTree}
use Rattle.program_file.specs.Numbers.{place_of, places, number_of}

-- ---- accesses, in the order of the text

abbrev pub tree_accesses : TextTree → List AccessText
tree_accesses (Access a) = a ∷ []
tree_accesses (Literal n) = []
tree_accesses (Times a b) = tree_accesses a ++ tree_accesses b
tree_accesses (Plus a b) = tree_accesses a ++ tree_accesses b
tree_accesses (Minus a b) = tree_accesses a ++ tree_accesses b
tree_accesses (Negate a) = tree_accesses a
tree_accesses (Sum v place a) = tree_accesses a

abbrev pub top_accesses : TopTextTree → List AccessText
top_accesses t = tree_accesses t.body

abbrev pub right_accesses : Statement → List AccessText
right_accesses s = flat_map top_accesses s.tops

-- ---- the variables of sums, in the order of their words: an outer one before those within it

abbrev pub tree_sums : TextTree → List (List ℕ)
tree_sums (Access a) = []
tree_sums (Literal n) = []
tree_sums (Times a b) = tree_sums a ++ tree_sums b
tree_sums (Plus a b) = tree_sums a ++ tree_sums b
tree_sums (Minus a b) = tree_sums a ++ tree_sums b
tree_sums (Negate a) = tree_sums a
tree_sums (Sum v place a) = v ∷ tree_sums a

abbrev pub right_sums : Statement → List (List ℕ)
right_sums s = flat_map (λ t. tree_sums t.body) s.tops

-- ---- top-level terms, where variables have these names

-- the variable of a sum by its number; a text has fewer variables than there are numbers
abbrev pub var_of : List (List ℕ) → List ℕ → ℕ
var_of names v = min (place_of names v) (2 ^ 32 - 1)

module _ (tensors : List Tensor) (names : List (List ℕ)) where
  abbrev pub body_of : TextTree → ExprTree
  body_of (Access a) = tree.Access (number_of tensors a.name) (places names a.vars)
  body_of (Literal n) = tree.Literal n
  body_of (Times a b) = tree.Times (body_of a) (body_of b)
  body_of (Plus a b) = tree.Plus (body_of a) (body_of b)
  body_of (Minus a b) = tree.Minus (body_of a) (body_of b)
  body_of (Negate a) = tree.Negate (body_of a)
  body_of (Sum v place a) = tree.Sum (var_of names v) (body_of a)

  module _ (left : List ℕ) where
    abbrev pub top_of : TopTextTree → TopTree
    top_of t = record { minus = t.minus; body = body_of t.body; implied = implied_of (length names) left (body_of t.body) }

    abbrev pub tops_of : Statement → List TopTree
    tops_of s = map top_of s.tops
