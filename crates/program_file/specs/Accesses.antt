-- The variables of a statement, bound access by access, and the first fault of an access.
use Rattle.std.specs.Prelude.{ℕ, Bool, false, not, ◌==◌, List, [], ◌∷◌, ◌++◌, length, if◌then◌else◌, Option, Some, None, Result, Ok}
use Rattle.std.specs.List.{list_any}
use Rattle.std.specs.Str.{bytes_eq}
use Rattle.sam_base.specs.declared.faults.ProgramKind.{ProgramKind}
use Rattle.sam_base.specs.declared.faults.ProgramKind.TheVariants.{UnknownName, ResultOnRight, ScalarOperand, ArityMismatch, RepeatedVariable, DimMismatch}
use Rattle.sam_model.specs.declared.tensors.Tensor.{Tensor}
use Rattle.sam_model.specs.Accepted.{is_named}
use Rattle.notation.specs.declared.statement.AccessText.{AccessText}
use Rattle.program_file.specs.declared.accesses.Variable.{Variable}
use Rattle.program_file.specs.Refusals.{ProgramRefusal, program_refused, and_then}

abbrev pub is_variable : List ℕ → Variable → Bool
is_variable name v = bytes_eq name v.name

abbrev pub is_known : List ℕ → List Variable → Bool
is_known name vars = list_any (is_variable name) vars

-- the first variable that stands twice
abbrev pub repeated_variable : List (List ℕ) → Option (List ℕ)
repeated_variable [] = None
repeated_variable (v ∷ vs) = if is_named v vs then Some v else repeated_variable vs

-- the dimension at a variable's first place is another
abbrev pub differs : List ℕ → ℕ → List Variable → Bool
differs name size [] = false
differs name size (v ∷ vars) = if is_variable name v then not (v.size == size) else differs name size vars

-- the first variable of an access at another dimension than at its first place
abbrev pub mismatched : List Variable → List (List ℕ) → List ℕ → Option (List ℕ)
mismatched vars [] dims = None
mismatched vars (name ∷ names) [] = None
mismatched vars (name ∷ names) (d ∷ dims) = if differs name d vars then Some name else mismatched vars names dims

-- a variable behind those so far, unless it is known
abbrev pub with_variable : List Variable → List ℕ → ℕ → List Variable
with_variable vars name size = if is_known name vars then vars else vars ++ (record { name = name; size = size }) ∷ []

-- the variables in the order of their first places, with those of one more access
abbrev pub with_variables : List Variable → List (List ℕ) → List ℕ → List Variable
with_variables vars [] dims = vars
with_variables vars (name ∷ names) [] = vars
with_variables vars (name ∷ names) (d ∷ dims) = with_variables (with_variable vars name d) names dims

abbrev pub named_kind : (List ℕ → ProgramKind) → Option (List ℕ) → Option ProgramKind → Option ProgramKind
named_kind kind None next = next
named_kind kind (Some name) next = Some (kind name)

-- the first fault of an access of this tensor
abbrev pub access_fault : List Variable → AccessText → Tensor → Option ProgramKind
access_fault vars a t =
    if not (length a.vars == length t.dims) then Some (ArityMismatch a.name)
    else named_kind RepeatedVariable (repeated_variable a.vars) (named_kind DimMismatch (mismatched vars a.vars t.dims) None)

abbrev pub unless : {Y : Type 0} → ℕ → Option ProgramKind → Y → Result Y ProgramRefusal
unless line None x = Ok x
unless line (Some kind) x = program_refused kind line

abbrev pub bind_access : ℕ → List Variable → AccessText → Tensor → Result (List Variable) ProgramRefusal
bind_access line vars a t = unless line (access_fault vars a t) (with_variables vars a.vars t.dims)

abbrev pub tensor_named : List ℕ → List Tensor → Option Tensor
tensor_named name [] = None
tensor_named name (t ∷ ts) = if bytes_eq name t.name then Some t else tensor_named name ts

-- on the left only the result stands
abbrev pub bind_left : ℕ → Tensor → AccessText → Result (List Variable) ProgramRefusal
bind_left line result a = if bytes_eq a.name result.name then bind_access line [] a result else program_refused (UnknownName a.name) line

-- what is told of a name on the right that no tensor has: it is that of an earlier result without dimensions, or nothing's
abbrev pub no_operand : List (List ℕ) → List ℕ → ProgramKind
no_operand scalars name = if is_named name scalars then ScalarOperand name else UnknownName name

abbrev pub bind_named : ℕ → List (List ℕ) → List Variable → AccessText → Option Tensor → Result (List Variable) ProgramRefusal
bind_named line scalars vars a None = program_refused (no_operand scalars a.name) line
bind_named line scalars vars a (Some t) = bind_access line vars a t

-- on the right only these tensors stand, where the earlier results without dimensions have these names
abbrev pub bind_right : ℕ → List Tensor → List (List ℕ) → Tensor → List Variable → AccessText → Result (List Variable) ProgramRefusal
bind_right line tensors scalars result vars a =
    if bytes_eq a.name result.name then program_refused (ResultOnRight a.name) line
    else bind_named line scalars vars a (tensor_named a.name tensors)

abbrev pub bind_accesses : ℕ → List Tensor → List (List ℕ) → Tensor → List Variable → List AccessText → Result (List Variable) ProgramRefusal
bind_accesses line tensors scalars result vars [] = Ok vars
bind_accesses line tensors scalars result vars (a ∷ accesses) =
    and_then (bind_right line tensors scalars result vars a) (λ more. bind_accesses line tensors scalars result more accesses)
