-- Which programs fit together by their terms.
use Rattle.std.specs.Prelude.{ℕ, zero, suc, Bool, true, false, not, ◌&&◌, ◌||◌, ◌==◌, List, [], ◌∷◌, length, slice_index, nat_le, nat_lt, count_by}
use Rattle.std.specs.List.{list_all, list_any}
use Rattle.std.specs.Str.{bytes_eq}
use Rattle.sam_base.specs.declared.TheConstants.{DIMENSION_MOST, FACTORS_MOST, TERMS_MOST, VARIABLES_MOST}
use Rattle.sam_model.specs.declared.tensors.Tensor.{Tensor}
use Rattle.sam_model.specs.declared.program.Factor.{Factor}
use Rattle.sam_model.specs.declared.program.Factor.TheVariants.{Access, Literal}
use Rattle.sam_model.specs.declared.program.Term.{Term}
use Rattle.sam_model.specs.declared.program.Program.{Program}
use Rattle.sam_model.specs.Lists.{below, items_at, is_in}
use Rattle.sam_model.specs.Denote.{vars_of, has_var}

-- no number stands twice
abbrev pub distinct : List ℕ → Bool
distinct [] = true
distinct (x ∷ xs) = not (is_in x xs) && distinct xs

abbrev pub is_named : List ℕ → List (List ℕ) → Bool
is_named name names = list_any (bytes_eq name) names

-- no name stands twice
abbrev pub distinct_names : List (List ℕ) → Bool
distinct_names [] = true
distinct_names (x ∷ xs) = not (is_named x xs) && distinct_names xs

abbrev pub ascending_from : ℕ → List ℕ → Bool
ascending_from x [] = true
ascending_from x (y ∷ ys) = nat_lt x y && ascending_from y ys

abbrev pub ascending : List ℕ → Bool
ascending [] = true
ascending (x ∷ xs) = ascending_from x xs

abbrev pub is_dimension : ℕ → Bool
is_dimension d = nat_le 1 d && nat_le d DIMENSION_MOST

-- a permutation of the modes below n
abbrev pub is_order : ℕ → List ℕ → Bool
is_order n order = length order == n && (list_all (λ m. nat_lt m n) order && distinct order)

-- at most eight dimensions in range, as many formats, and a storage order
abbrev pub is_well_formed : Tensor → Bool
is_well_formed t =
    nat_le (length t.dims) VARIABLES_MOST
    && (list_all is_dimension t.dims && (length t.formats == length t.dims && is_order (length t.dims) t.order))

abbrev pub is_operand : Tensor → Bool
is_operand t = nat_le 1 (length t.dims) && is_well_formed t

-- as many variables as dimensions, each of them in range and of the size of its dimension
abbrev pub variables_fit : List ℕ → List ℕ → List ℕ → Bool
variables_fit sizes [] [] = true
variables_fit sizes [] (v ∷ vars) = false
variables_fit sizes (d ∷ dims) [] = false
variables_fit sizes (d ∷ dims) (v ∷ vars) = nat_lt v (length sizes) && (slice_index sizes v == d && variables_fit sizes dims vars)

-- the variables of an access fit its tensor, none stands twice, and in storage order they stand in loop order
abbrev pub access_fits : List ℕ → List ℕ → Tensor → Bool
access_fits sizes vars t = variables_fit sizes t.dims vars && (distinct vars && ascending (items_at vars t.order))

-- tensor n is there and passes a test
abbrev pub tensor_passes : (Tensor → Bool) → List Tensor → ℕ → Bool
tensor_passes test [] n = false
tensor_passes test (t ∷ ts) zero = test t
tensor_passes test (t ∷ ts) (suc n) = tensor_passes test ts n

abbrev pub factor_fits : List Tensor → List ℕ → Factor → Bool
factor_fits tensors sizes (Access n vars) = tensor_passes (access_fits sizes vars) tensors n
factor_fits tensors sizes (Literal n) = true

abbrev pub is_access : Factor → Bool
is_access (Access n vars) = true
is_access (Literal n) = false

abbrev pub term_has : Term → ℕ → Bool
term_has t v = list_any (has_var v) t.factors

abbrev pub terms_have : List Term → ℕ → Bool
terms_have terms v = list_any (λ t. term_has t v) terms

-- at most two variables of the left come after v, unless it is on the left itself
abbrev pub reduces : List ℕ → ℕ → Bool
reduces left v = is_in v left || nat_le (count_by (nat_lt v) left) 2

abbrev pub factor_reduces : List ℕ → Factor → Bool
factor_reduces left f = list_all (reduces left) (vars_of f)

-- one to eight factors that fit, with an access and each variable of the left, and no reduction too deep
abbrev pub term_fits : List Tensor → List ℕ → List ℕ → Term → Bool
term_fits tensors sizes left t =
    nat_le 1 (length t.factors) && (nat_le (length t.factors) FACTORS_MOST
    && (list_all (factor_fits tensors sizes) t.factors
    && (list_any is_access t.factors
    && (list_all (term_has t) left
    && list_all (factor_reduces left) t.factors))))

-- v stands in the statement
abbrev pub stands : List ℕ → List Term → ℕ → Bool
stands left terms v = is_in v left || terms_have terms v

abbrev pub statement_fits : Program → Bool
statement_fits p =
    length p.var_names == length p.var_sizes && (nat_le (length p.var_sizes) VARIABLES_MOST && (distinct_names p.var_names
    && (list_all (stands p.left p.terms) (below (length p.var_sizes))
    && (access_fits p.var_sizes p.left p.result
    && (nat_le 1 (length p.terms) && (nat_le (length p.terms) TERMS_MOST
    && list_all (term_fits p.tensors p.var_sizes p.left) p.terms))))))

-- one of these tensors has the name
abbrev pub is_taken : List ℕ → List Tensor → Bool
is_taken name tensors = list_any (λ t. bytes_eq name t.name) tensors

abbrev pub distinct_tensors : List Tensor → Bool
distinct_tensors [] = true
distinct_tensors (t ∷ ts) = not (is_taken t.name ts) && distinct_tensors ts

-- the tensors are well formed, and all names of tensors and of the result differ
abbrev pub declarations_fit : List Tensor → Tensor → Bool
declarations_fit tensors result =
    list_all is_operand tensors && (is_well_formed result && (distinct_tensors tensors && not (is_taken result.name tensors)))

-- the tensors, the left side and the terms fit together
abbrev pub fits_by_terms : Program → Bool
fits_by_terms p = declarations_fit p.tensors p.result && statement_fits p
