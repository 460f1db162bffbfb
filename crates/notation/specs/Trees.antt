-- Expressions as they are written, as trees, wherever their parts are kept.
use Rattle.std.specs.Prelude.{ℕ, Bool, cond, List, [], ◌∷◌, Option, Some, None}
use Rattle.notation.specs.declared.statement.AccessText.{AccessText}
use Rattle.notation.specs.declared.statement.ExprText.{ExprText}
use Rattle.notation.specs.declared.statement.ExprText.TheVariants as boxed

pub data TextTree : Type 0 where
  Access : (access : AccessText) → TextTree
  Literal : (number : ℕ) → TextTree
  Times : (a b : TextTree) → TextTree
  Plus : (a b : TextTree) → TextTree
  Minus : (a b : TextTree) → TextTree
  Negate : (a : TextTree) → TextTree
  Sum : (var : List ℕ) (place : ℕ) (a : TextTree) → TextTree

-- a term with the sign before it
pub record TopTextTree : Type 0 where
  pub minus : Bool
  pub body : TextTree

-- an expression without the places of its boxes
abbrev pub text_tree : ExprText → TextTree
text_tree (boxed.Access a) = Access a
text_tree (boxed.Literal n) = Literal n
text_tree (boxed.Times' p a q b) = Times (text_tree a) (text_tree b)
text_tree (boxed.Plus' p a q b) = Plus (text_tree a) (text_tree b)
text_tree (boxed.Minus' p a q b) = Minus (text_tree a) (text_tree b)
text_tree (boxed.Negate' p a) = Negate (text_tree a)
text_tree (boxed.Sum' v k p a) = Sum v k (text_tree a)

-- ---- products and sums, grouped from the left

abbrev pub product_with : TextTree → List TextTree → TextTree
product_with a [] = a
product_with a (f ∷ fs) = product_with (Times a f) fs

abbrev pub product_of : List TextTree → TextTree
product_of [] = Literal 1
product_of (f ∷ fs) = product_with f fs

-- the product so far, if there is a factor, with more factors
abbrev pub product_onto : Option TextTree → List TextTree → TextTree
product_onto None fs = product_of fs
product_onto (Some a) fs = product_with a fs

abbrev pub signed : TopTextTree → TextTree
signed t = cond t.minus (Negate t.body) t.body

abbrev pub added : TextTree → TopTextTree → TextTree
added a t = cond t.minus (Minus a t.body) (Plus a t.body)

abbrev pub sum_with : TextTree → List TopTextTree → TextTree
sum_with a [] = a
sum_with a (t ∷ ts) = sum_with (added a t) ts

abbrev pub sum_of : List TopTextTree → TextTree
sum_of [] = Literal 0
sum_of (t ∷ ts) = sum_with (signed t) ts

-- the sum so far, if there is a term, with more terms
abbrev pub sum_onto : Option TextTree → List TopTextTree → TextTree
sum_onto None ts = sum_of ts
sum_onto (Some a) ts = sum_with a ts
