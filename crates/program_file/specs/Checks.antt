-- The checks that follow when each access is right: of the sums, of the expanded terms, where variables have these names, and of
-- the order of the loops.
use Rattle.std.specs.Prelude.{ℕ, Bool, false, ◌||◌, List, [], ◌∷◌, ◌++◌, length, eqb, nat_lt, if◌then◌else◌, Option, Some, None}
use Rattle.std.specs.List.{list_any}
use Rattle.sam_base.specs.declared.TheConstants.{TERMS_MOST}
use Rattle.sam_base.specs.declared.faults.ProgramKind.{ProgramKind}
use Rattle.sam_base.specs.declared.faults.ProgramKind.TheVariants.{BoundVariable, ExpandedTerms, ExpandedFactors, NoAccess}
use Rattle.sam_base.specs.declared.faults.ProgramKind.TheVariants.{MissingResultVariable, Discordant, ReducerTooDeep}
use Rattle.sam_model.specs.declared.tensors.Tensor.{Tensor}
use Rattle.sam_model.specs.declared.program.Factor.{Factor}
use Rattle.sam_model.specs.declared.program.Term.{Term}
use Rattle.sam_model.specs.Lists.{items_at, is_in}
use Rattle.sam_model.specs.Denote.{vars_of}
use Rattle.sam_model.specs.Trees.{ExprTree, Access, Literal, Times, Plus, Minus, Negate, Sum, TopTree}
use Rattle.sam_model.specs.Scopes.{bound_vars, free_vars}
use Rattle.sam_model.specs.Accepted.{is_access, term_has, reduces, ascending}
use Rattle.expand.specs.Counting.{have_long}
use Rattle.notation.specs.declared.statement.AccessText.{AccessText}
use Rattle.program_file.specs.declared.accesses.Variable.{Variable}
use Rattle.program_file.specs.Accesses.{is_known, tensor_named, named_kind}
use Rattle.program_file.specs.Numbers.{place_of, places, name_at}

abbrev pub first_of : Option ProgramKind → Option ProgramKind → Option ProgramKind
first_of None next = next
first_of (Some kind) next = Some kind

-- ---- sums

-- the first of these names, those of sums, that is no variable of the statement's accesses
abbrev pub unused : List Variable → List (List ℕ) → Option (List ℕ)
unused vars [] = None
unused vars (v ∷ vs) = if is_known v vars then unused vars vs else Some v

-- a number stands twice among these
abbrev pub is_twice : ℕ → List ℕ → Bool
is_twice k [] = false
is_twice k (n ∷ ns) = if eqb k n then is_in k ns else is_twice k ns

-- A sum may not be over this variable: it is on the left, or that of another sum of the term, or stands in the term outside the
-- sum.
abbrev pub binds_wrong : List ℕ → ExprTree → ℕ → Bool
binds_wrong left e k = is_in k left || (is_twice k (bound_vars e) || is_in k (free_vars e))

-- the variables of the sums of an expression, an outer one before those within it
abbrev pub sum_vars : ExprTree → List ℕ
sum_vars (Access n vars) = []
sum_vars (Literal n) = []
sum_vars (Times a b) = sum_vars a ++ sum_vars b
sum_vars (Plus a b) = sum_vars a ++ sum_vars b
sum_vars (Minus a b) = sum_vars a ++ sum_vars b
sum_vars (Negate a) = sum_vars a
sum_vars (Sum k a) = k ∷ sum_vars a

module _ (names : List (List ℕ)) (left : List ℕ) where
  -- the first of these variables that no sum of the expression may be over
  abbrev pub wrong_among : ExprTree → List ℕ → Option ProgramKind
  wrong_among e [] = None
  wrong_among e (k ∷ ks) = if binds_wrong left e k then Some (BoundVariable (name_at names k)) else wrong_among e ks

  -- the first sum that is over a variable that it may not be over
  abbrev pub tops_bind_wrong : List TopTree → Option ProgramKind
  tops_bind_wrong [] = None
  tops_bind_wrong (t ∷ ts) = first_of (wrong_among t.body (sum_vars t.body)) (tops_bind_wrong ts)

-- ---- how many terms and factors

-- a statement has too many terms, or a term has too many factors
abbrev pub expansion_fault : List Term → Option ProgramKind
expansion_fault ts =
    if nat_lt TERMS_MOST (length ts) then Some ExpandedTerms
    else if have_long ts then Some ExpandedFactors
    else None

-- ---- terms

-- a term has the variable of a name
unfoldable pub has_named : List (List ℕ) → Term → List ℕ → Bool
has_named names t v = term_has t (place_of names v)

module _ (names : List (List ℕ)) where
  -- the first variable of the left that a term lacks
  abbrev pub missing : Term → List (List ℕ) → Option (List ℕ)
  missing t [] = None
  missing t (v ∷ vs) = if has_named names t v then missing t vs else Some v

  abbrev pub term_fault : List (List ℕ) → Term → Option ProgramKind
  term_fault left t = if list_any is_access t.factors then named_kind MissingResultVariable (missing t left) None else Some NoAccess

  -- the first fault of the first term that has one
  abbrev pub terms_fault : List (List ℕ) → List Term → Option ProgramKind
  terms_fault left [] = None
  terms_fault left (t ∷ ts) = first_of (term_fault left t) (terms_fault left ts)

  -- the first variable that is summed over with more than two variables of the left after it
  abbrev pub vars_deep : List ℕ → List ℕ → Option ProgramKind
  vars_deep left [] = None
  vars_deep left (v ∷ vs) = if reduces left v then vars_deep left vs else Some (ReducerTooDeep (name_at names v))

  abbrev pub factors_deep : List ℕ → List Factor → Option ProgramKind
  factors_deep left [] = None
  factors_deep left (f ∷ fs) = first_of (vars_deep left (vars_of f)) (factors_deep left fs)

  -- the first such variable of the first term that has one
  abbrev pub terms_deep : List ℕ → List Term → Option ProgramKind
  terms_deep left [] = None
  terms_deep left (t ∷ ts) = first_of (factors_deep left t.factors) (terms_deep left ts)

-- ---- accesses

-- an access whose variables in storage order don't stand in loop order
abbrev pub access_discordant : List (List ℕ) → AccessText → Tensor → Option ProgramKind
access_discordant loops a t = if ascending (items_at (places loops a.vars) t.order) then None else Some (Discordant a.name)

abbrev pub named_discordant : List (List ℕ) → AccessText → Option Tensor → Option ProgramKind
named_discordant loops a None = None
named_discordant loops a (Some t) = access_discordant loops a t

-- the first such access
abbrev pub accesses_discordant : List Tensor → List (List ℕ) → List AccessText → Option ProgramKind
accesses_discordant tensors loops [] = None
accesses_discordant tensors loops (a ∷ accesses) =
    first_of (named_discordant loops a (tensor_named a.name tensors)) (accesses_discordant tensors loops accesses)
