-- Variables and tensors by numbers.
use Rattle.std.specs.Prelude.{ℕ, zero, suc, ◌-◌, ◌^◌, min, Bool, ◌&&◌, ◌==◌, List, [], ◌∷◌, length, if◌then◌else◌}
use Rattle.std.specs.List.{list_all, position_or_len}
use Rattle.std.specs.Str.{bytes_eq}
use mathlib.Core.List.{map}
use Rattle.sam_model.specs.declared.tensors.Tensor.{Tensor}
use Rattle.sam_model.specs.Accepted.{is_named, distinct_names}
use Rattle.program_file.specs.declared.accesses.Variable.{Variable}
use Rattle.program_file.specs.Accesses.{is_variable, is_known}

-- ---- variables

-- the loops are the variables, each exactly once
abbrev pub are_loops : List Variable → List (List ℕ) → Bool
are_loops vars loops =
    length loops == length vars && (list_all (λ n. is_known n vars) loops
    && (distinct_names loops && list_all (λ v. is_named v.name loops) vars))

abbrev pub names_of : List Variable → List (List ℕ)
names_of vars = map (λ v. v.name) vars

-- The variables in the order of their numbers: that of the loops where these are right, and that of the first places
-- otherwise, so that the checks before that of the loops have numbers too.
abbrev pub numbering : List Variable → List (List ℕ) → List (List ℕ)
numbering vars loops = if are_loops vars loops then loops else names_of vars

-- the number of a variable
abbrev pub place_of : List (List ℕ) → List ℕ → ℕ
place_of names name = position_or_len (bytes_eq name) names

abbrev pub places : List (List ℕ) → List (List ℕ) → List ℕ
places names vars = map (place_of names) vars

-- the variable of a number
abbrev pub name_at : List (List ℕ) → ℕ → List ℕ
name_at [] k = []
name_at (x ∷ xs) zero = x
name_at (x ∷ xs) (suc k) = name_at xs k

-- the dimension at the first place of a variable
abbrev pub size_of : List Variable → List ℕ → ℕ
size_of [] name = 0
size_of (v ∷ vars) name = if is_variable name v then v.size else size_of vars name

-- ---- tensors

abbrev pub tensor_place : List Tensor → List ℕ → ℕ
tensor_place tensors name = position_or_len (λ t. bytes_eq name t.name) tensors

-- the number of a tensor, by its name; a text has fewer tensors than there are numbers
abbrev pub number_of : List Tensor → List ℕ → ℕ
number_of tensors name = min (tensor_place tensors name) (2 ^ 32 - 1)
