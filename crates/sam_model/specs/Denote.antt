-- What a program denotes: a number at each coordinate of its result, and the coordinates of its pattern. Coordinates of
-- the result are in its storage order, which is the loop order of its variables.
use Rattle.std.specs.Prelude.{ℕ, zero, suc, ◌+◌, ◌-◌, ◌*◌, ◌%◌, ◌^◌, Bool, true, false, cond, List, [], ◌∷◌, length, slice_index}
use Rattle.std.specs.List.{flat_map, filter, list_any, list_all}
use mathlib.Core.List.{map}
use Rattle.sam_model.specs.declared.tensors.Tensor.{Tensor}
use Rattle.sam_model.specs.declared.tensors.Entries.{Entries}
use Rattle.sam_model.specs.declared.program.Factor.{Factor}
use Rattle.sam_model.specs.declared.program.Factor.TheVariants.{Access, Literal}
use Rattle.sam_model.specs.declared.program.Term.{Term}
use Rattle.sam_model.specs.declared.program.Program.{Program}
use Rattle.sam_model.specs.Lists.{below, items_at, total, is_in, tuples, coordinate}
use Rattle.sam_model.specs.Tensors.{Stored, stored_as, is_stored, value_at}

-- the variables of a factor
abbrev pub vars_of : Factor → List ℕ
vars_of (Access n vars) = vars
vars_of (Literal n) = []

abbrev pub has_var : ℕ → Factor → Bool
has_var v f = is_in v (vars_of f)

-- the variables of a term, in loop order
abbrev pub loops_of : Program → Term → List ℕ
loops_of p t = filter (λ v. list_any (has_var v) t.factors) (below (length p.var_sizes))

-- a loop of a term: the size of its variable, and whether that is on the left
abbrev pub Loop : Type 0
Loop = ℕ × Bool

abbrev pub loop_list : Program → Term → List Loop
loop_list p t = map (λ v. (slice_index p.var_sizes v, is_in v p.left)) (loops_of p t)

-- all tuples for these loops, ascending, that have the coordinates x at those on the left
abbrev pub fill : List Loop → List ℕ → List (List ℕ)
fill [] x = [] ∷ []
fill ((s, true) ∷ loops) [] = []
fill ((s, true) ∷ loops) (c ∷ x) = map (λ u. c ∷ u) (fill loops x)
fill ((s, false) ∷ loops) x = flat_map (λ c. map (λ u. c ∷ u) (fill loops x)) (below s)

abbrev pub no_tensor : Stored
no_tensor = record { formats = []; sizes = []; entries = [] }

abbrev pub tensor_at : List Stored → ℕ → Stored
tensor_at [] n = no_tensor
tensor_at (a ∷ stored) zero = a
tensor_at (a ∷ stored) (suc n) = tensor_at stored n

-- each declared tensor with its entries
abbrev pub stored_of : List Tensor → List Entries → List Stored
stored_of [] es = []
stored_of (t ∷ ts) [] = []
stored_of (t ∷ ts) (e ∷ es) = stored_as t e ∷ stored_of ts es

abbrev pub order_at : List Tensor → ℕ → List ℕ
order_at [] n = []
order_at (t ∷ ts) zero = t.order
order_at (t ∷ ts) (suc n) = order_at ts n

-- the coordinates of an access of tensor n, in storage order, at a tuple for these variables
abbrev pub access_place : Program → List ℕ → List ℕ → ℕ → List ℕ → List ℕ
access_place p loops u n vars = items_at (map (coordinate loops u) vars) (order_at p.tensors n)

module _ (p : Program) (es : List Entries) where
  -- a factor's number at a tuple
  abbrev pub factor_at : List ℕ → List ℕ → Factor → ℕ
  factor_at loops u (Access n vars) = value_at (tensor_at (stored_of p.tensors es) n) (access_place p loops u n vars)
  factor_at loops u (Literal n) = n

  -- a factor's coordinates at a tuple are stored
  abbrev pub stored_at : List ℕ → List ℕ → Factor → Bool
  stored_at loops u (Access n vars) = is_stored (tensor_at (stored_of p.tensors es) n) (access_place p loops u n vars)
  stored_at loops u (Literal n) = true

  abbrev pub product : List ℕ → List ℕ → List Factor → ℕ
  product loops u [] = 1
  product loops u (f ∷ fs) = (factor_at loops u f * product loops u fs) % 2 ^ 64

  -- the tuples of a term at the result's coordinates x
  abbrev pub tuples_of : Term → List ℕ → List (List ℕ)
  tuples_of t x = fill (loop_list p t) x

  abbrev pub term_at : Term → List ℕ → ℕ
  term_at t x = total (λ u. product (loops_of p t) u t.factors) (tuples_of t x) % 2 ^ 64

  abbrev pub signed_terms : List Term → List ℕ → ℕ
  signed_terms [] x = 0
  signed_terms (t ∷ ts) x = (cond t.minus (2 ^ 64 - term_at t x) (term_at t x) + signed_terms ts x) % 2 ^ 64

  -- the number that the statement denotes at x
  abbrev pub den : List ℕ → ℕ
  den x = signed_terms p.terms x

  -- x is in the pattern: at some tuple of some term all its accesses are stored
  abbrev pub pat : List ℕ → Bool
  pat x = list_any (λ t. list_any (λ u. list_all (stored_at (loops_of p t) u) t.factors) (tuples_of t x)) p.terms

  -- the coordinates of the pattern with their numbers, ascending in the result's storage order
  abbrev pub result_entries : List (List ℕ × ℕ)
  result_entries = map (λ x. (x, den x)) (filter pat (tuples (items_at p.result.dims p.result.order)))
