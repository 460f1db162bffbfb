-- A term as its loops and its accesses see it, with no names and no variables.
use Rattle.std.specs.Prelude.{ℕ, ◌-◌, ◌*◌, ◌%◌, ◌^◌, Bool, true, false, cond, ◌&&◌, List, [], ◌∷◌, get_or}
use mathlib.Core.List.{map}
use Rattle.sam_model.specs.declared.tensors.Entries.{Entries}
use Rattle.sam_model.specs.declared.program.Factor.{Factor}
use Rattle.sam_model.specs.declared.program.Factor.TheVariants.{Access, Literal}
use Rattle.sam_model.specs.declared.program.Term.{Term}
use Rattle.sam_model.specs.declared.program.Program.{Program}
use Rattle.sam_model.specs.Lists.{is_in}
use Rattle.sam_model.specs.Tensors.{Stored, value_at}
use Rattle.sam_model.specs.Denote.{Loop, loops_of, loop_list, no_tensor, tensor_at, stored_of}

-- an access: its tensor as it is stored, and for each loop of the term whether it has its variable
pub record Operand : Type 0 where
  pub tensor : Stored
  pub has : List Bool

pub record TermData : Type 0 where
  pub loops : List Loop
  pub accesses : List Operand
  pub coefficient : ℕ

abbrev pub no_operand : Operand
no_operand = record { tensor = no_tensor; has = [] }

abbrev pub access_at : List Operand → ℕ → Operand
access_at accesses n = get_or accesses n no_operand

-- the items where the mask is true
abbrev pub keep : List Bool → List ℕ → List ℕ
keep [] u = []
keep (b ∷ mask) [] = []
keep (b ∷ mask) (c ∷ u) = cond b (c ∷ keep mask u) (keep mask u)

-- a prefix of the loops at an access's variables
abbrev pub restricted : Operand → List ℕ → List ℕ
restricted a u = keep a.has u

abbrev pub product_of : List Operand → List ℕ → ℕ
product_of [] u = 1
product_of (a ∷ accesses) u = value_at a.tensor (restricted a u) * product_of accesses u

-- the product of these accesses at u
abbrev pub partial_product : List Operand → List ℕ → ℕ
partial_product accesses u = product_of accesses u % 2 ^ 64

-- the product of all factors at u
abbrev pub whole_product : TermData → List ℕ → ℕ
whole_product t u = (t.coefficient * product_of t.accesses u) % 2 ^ 64

-- ---- the terms of a program

-- which of these loops has its variable among vars
abbrev pub mask_of : List ℕ → List ℕ → List Bool
mask_of loops vars = map (λ v. is_in v vars) loops

abbrev pub operands_of : List Stored → List ℕ → List Factor → List Operand
operands_of stored loops [] = []
operands_of stored loops (Access n vars ∷ factors) = record { tensor = tensor_at stored n; has = mask_of loops vars } ∷ operands_of stored loops factors
operands_of stored loops (Literal n ∷ factors) = operands_of stored loops factors

abbrev pub literals_of : List Factor → ℕ
literals_of [] = 1
literals_of (Access n vars ∷ factors) = literals_of factors
literals_of (Literal n ∷ factors) = n * literals_of factors

-- the product of the literals, negated where the sign of a first term is minus
abbrev pub coefficient_of : Bool → Term → ℕ
coefficient_of first t = (cond (first && t.minus) (2 ^ 64 - 1) 1 * literals_of t.factors) % 2 ^ 64

-- a term; the flag says whether it is the first
abbrev pub term_data : Program → List Entries → Bool → Term → TermData
term_data p es first t = record {
  loops = loop_list p t;
  accesses = operands_of (stored_of p.tensors es) (loops_of p t) t.factors;
  coefficient = coefficient_of first t;
}

-- a term of a sum: the first is added, whatever its sign, which its coefficient has
pub record Summand : Type 0 where
  pub term : TermData
  pub minus : Bool

abbrev pub further_summand : Program → List Entries → Term → Summand
further_summand p es t = record { term = term_data p es false t; minus = t.minus }

abbrev pub summands_of : Program → List Entries → List Term → List Summand
summands_of p es [] = []
summands_of p es (t ∷ ts) = record { term = term_data p es true t; minus = false } ∷ map (further_summand p es) ts

abbrev pub summands : Program → List Entries → List Summand
summands p es = summands_of p es p.terms

abbrev pub no_term : TermData
no_term = record { loops = []; accesses = []; coefficient = 0 }

abbrev pub no_summand : Summand
no_summand = record { term = no_term; minus = false }

abbrev pub summand_at : List Summand → ℕ → Summand
summand_at ss n = get_or ss n no_summand
