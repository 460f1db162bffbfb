-- Expressions as trees: what an expression is, wherever its parts are kept.
use Rattle.std.specs.Prelude.{ℕ, Bool, List}
use Rattle.sam_model.specs.declared.expressions.Expr.{Expr}
use Rattle.sam_model.specs.declared.expressions.Expr.TheVariants as boxed

pub data ExprTree : Type 0 where
  Access : (tensor : ℕ) (vars : List ℕ) → ExprTree
  Literal : (number : ℕ) → ExprTree
  Times : (a b : ExprTree) → ExprTree
  Plus : (a b : ExprTree) → ExprTree
  Minus : (a b : ExprTree) → ExprTree
  Negate : (a : ExprTree) → ExprTree
  Sum : (var : ℕ) (a : ExprTree) → ExprTree

-- a top-level term: its sign, its expression, and its implied variables
pub record TopTree : Type 0 where
  pub minus : Bool
  pub body : ExprTree
  pub implied : List ℕ

-- an expression without the places of its boxes
abbrev pub tree_of : Expr → ExprTree
tree_of (boxed.Access n vars) = Access n vars
tree_of (boxed.Literal n) = Literal n
tree_of (boxed.Times' p a q b) = Times (tree_of a) (tree_of b)
tree_of (boxed.Plus' p a q b) = Plus (tree_of a) (tree_of b)
tree_of (boxed.Minus' p a q b) = Minus (tree_of a) (tree_of b)
tree_of (boxed.Negate' p a) = Negate (tree_of a)
tree_of (boxed.Sum' k p a) = Sum k (tree_of a)
