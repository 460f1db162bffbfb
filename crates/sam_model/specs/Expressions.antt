-- What an expression denotes, where it is found, and the terms that it expands to. What it denotes never mentions the terms.
use Rattle.std.specs.Prelude.{ℕ, zero, suc, ◌+◌, ◌-◌, ◌*◌, ◌%◌, ◌^◌, Bool, true, false, not, cond, ◌&&◌, ◌||◌, List, [], ◌∷◌, ◌++◌, slice_index, eqb}
use Rattle.std.specs.List.{flat_map}
use mathlib.Core.List.{map}
use Rattle.sam_model.specs.declared.tensors.Tensor.{Tensor}
use Rattle.sam_model.specs.declared.tensors.Entries.{Entries}
use Rattle.sam_model.specs.declared.program.Factor.TheVariants as factor
use Rattle.sam_model.specs.declared.program.Term.{Term}
use Rattle.sam_model.specs.Trees.{ExprTree, Access, Literal, Times, Plus, Minus, Negate, Sum, TopTree}
use Rattle.sam_model.specs.Lists.{items_at, coordinate}
use Rattle.sam_model.specs.Tensors.{is_stored, value_at}
use Rattle.sam_model.specs.Denote.{stored_of, tensor_at, order_at}
use Rattle.sam_model.specs.Accepted.{term_has}

-- ---- values

-- a tuple: a number for each variable
abbrev pub Tuple : Type 0
Tuple = ℕ → ℕ

-- the tuple with v for the variable k
abbrev pub with_at : Tuple → ℕ → ℕ → Tuple
with_at s k v j = cond (eqb j k) v (s j)

-- the tuple that has the coordinates x at the variables of the left, which are in the order of x
abbrev pub at_left : List ℕ → List ℕ → Tuple
at_left left x = coordinate left x

-- what sums and products are made of: their neutral values, the two operations, the value of a literal, and the factor
-- that turns a sign
pub record Values (R : Type 0) : Type 0 where
  pub none : R
  pub one : R
  pub add : R → R → R
  pub mul : R → R → R
  pub literal : ℕ → R
  pub minus : R

-- whole numbers, which are meant modulo 2^64, where -1 is 2^64 - 1
abbrev pub number_values : Values ℕ
number_values = record { none = 0; one = 1; add = λ a b. a + b; mul = λ a b. a * b; literal = λ n. n; minus = 2 ^ 64 - 1 }

-- what is there: of a sum either side, of a product both, and every literal
abbrev pub presence_values : Values Bool
presence_values = record { none = false; one = true; add = λ a b. a || b; mul = λ a b. a && b; literal = λ n. true; minus = true }

module _ {R : Type 0} (o : Values R) where
  -- the sum of the first n values
  abbrev pub sum_first : ℕ → (ℕ → R) → R
  sum_first zero f = o.none
  sum_first (suc n) f = o.add (sum_first n f) (f n)

  abbrev pub negative_if : Bool → R → R
  negative_if minus a = cond minus (o.mul o.minus a) a

  module _ (sizes : List ℕ) where
    -- the sum over all numbers below the size of the variable k
    abbrev pub sum_for : ℕ → (Tuple → R) → Tuple → R
    sum_for k f s = sum_first (slice_index sizes k) (λ v. f (with_at s k v))

    -- the sum over several variables, of which the first is innermost
    abbrev pub sum_over : List ℕ → (Tuple → R) → Tuple → R
    sum_over [] f s = f s
    sum_over (k ∷ ks) f s = sum_over ks (sum_for k f) s

    -- expressions, where the value of an access is given by the number of its tensor and the coordinates by mode
    module _ (access : ℕ → List ℕ → R) where
      -- the value of an expression at a tuple
      abbrev pub expr_value : ExprTree → Tuple → R
      expr_value (Access n vars) s = access n (map s vars)
      expr_value (Literal n) s = o.literal n
      expr_value (Times a b) s = o.mul (expr_value a s) (expr_value b s)
      expr_value (Plus a b) s = o.add (expr_value a s) (expr_value b s)
      expr_value (Minus a b) s = o.add (expr_value a s) (o.mul o.minus (expr_value b s))
      expr_value (Negate a) s = o.mul o.minus (expr_value a s)
      expr_value (Sum k a) s = sum_for k (expr_value a) s

      -- that of a statement: the sum of its top-level terms with their signs, each over its implied variables
      abbrev pub tops_value : List TopTree → Tuple → R
      tops_value [] s = o.none
      tops_value (t ∷ ts) s = o.add (negative_if t.minus (sum_over t.implied (expr_value t.body) s)) (tops_value ts s)

-- ---- what a statement denotes

module _ (tensors : List Tensor) (es : List Entries) where
  -- the number of a tensor at coordinates by mode
  abbrev pub access_number : ℕ → List ℕ → ℕ
  access_number n place = value_at (tensor_at (stored_of tensors es) n) (items_at place (order_at tensors n))

  -- whether these coordinates are stored
  abbrev pub access_presence : ℕ → List ℕ → Bool
  access_presence n place = is_stored (tensor_at (stored_of tensors es) n) (items_at place (order_at tensors n))

  module _ (sizes left : List ℕ) (tops : List TopTree) where
    -- the number that the statement denotes at coordinates x of the result
    abbrev pub denoted : List ℕ → ℕ
    denoted x = tops_value number_values sizes access_number tops (at_left left x) % 2 ^ 64

    -- x is found: some top-level term has a tuple at which it is there
    abbrev pub found : List ℕ → Bool
    found x = tops_value presence_values sizes access_presence tops (at_left left x)

-- ---- the terms of an expression

-- with its sign turned
abbrev pub turned_term : Term → Term
turned_term t = record t { minus = not t.minus }

-- the product of two terms
abbrev pub joined_term : Term → Term → Term
joined_term t u = record { minus = cond t.minus (not u.minus) u.minus; factors = t.factors ++ u.factors }

module _ (sizes : List ℕ) where
  -- summed over the variable k: a term of which no access has it gets its size as a further literal
  abbrev pub summed_term : ℕ → Term → Term
  summed_term k t = cond (term_has t k) t (record t { factors = t.factors ++ factor.Literal (slice_index sizes k) ∷ [] })

  abbrev pub expanded : ExprTree → List Term
  expanded (Access n vars) = record { minus = false; factors = factor.Access n vars ∷ [] } ∷ []
  expanded (Literal n) = record { minus = false; factors = factor.Literal n ∷ [] } ∷ []
  expanded (Times a b) = flat_map (λ t. map (joined_term t) (expanded b)) (expanded a)
  expanded (Plus a b) = expanded a ++ expanded b
  expanded (Minus a b) = expanded a ++ map turned_term (expanded b)
  expanded (Negate a) = map turned_term (expanded a)
  expanded (Sum k a) = map (summed_term k) (expanded a)

  -- summed over several variables, of which the first is innermost
  abbrev pub summed_over : List ℕ → List Term → List Term
  summed_over [] ts = ts
  summed_over (k ∷ ks) ts = summed_over ks (map (summed_term k) ts)

  abbrev pub with_sign : Bool → List Term → List Term
  with_sign minus ts = cond minus (map turned_term ts) ts

  -- the terms of a statement, in the order of its text
  abbrev pub expanded_tops : List TopTree → List Term
  expanded_tops tops = flat_map (λ t. with_sign t.minus (summed_over t.implied (expanded t.body))) tops
