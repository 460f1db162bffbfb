-- What a line declares.
use Rattle.std.specs.Prelude.{ℕ, ◌-◌, ◌^◌, min, Bool, not, ◌&&◌, ◌||◌, ◌==◌, nat_le, List, [], ◌∷◌, length, if◌then◌else◌, Option, Some, None, Result, Ok}
use Rattle.std.specs.List.{list_all, slice_split}
use mathlib.Core.List.{map}
use Rattle.sam_base.specs.declared.faults.ProgramKind.TheVariants.{BadLine, DimensionRange, DuplicateName}
use Rattle.sam_text.specs.Numbers.{is_decimal, decimal}
use Rattle.sam_text.specs.Names.{is_name}
use Rattle.sam_model.specs.declared.tensors.Format.{Format}
use Rattle.sam_model.specs.declared.tensors.Format.TheVariants.{Dense, Compressed}
use Rattle.sam_model.specs.declared.tensors.Tensor.{Tensor}
use Rattle.sam_model.specs.Accepted.{is_dimension, is_order, is_taken}
use Rattle.program_file.specs.Refusals.{ProgramRefusal, program_refused}

-- decimals with a byte between them
abbrev pub parts : ℕ → List ℕ → List (List ℕ)
parts byte word = slice_split (λ b. b == byte) word

abbrev pub are_decimals : ℕ → List ℕ → Bool
are_decimals byte word = list_all is_decimal (parts byte word)

-- a decimal, or the greatest number of 64 bits where it is above that, which no dimension and no mode is
abbrev pub capped : List ℕ → ℕ
capped digits = min (decimal digits) (2 ^ 64 - 1)

abbrev pub numbers : ℕ → List ℕ → List ℕ
numbers byte word = map capped (parts byte word)

-- `d` or `c`
abbrev pub is_format_letter : ℕ → Bool
is_format_letter b = b == 100 || b == 99

abbrev pub format_of : ℕ → Format
format_of b = if b == 100 then Dense else Compressed

-- zero_based are written from 1
abbrev pub zero_based : List ℕ → List ℕ
zero_based numbers = map (λ n. n - 1) numbers

-- one to eight dimensions, as many letters, and a permutation of the zero_based
abbrev pub is_shape : List ℕ → List ℕ → List ℕ → Bool
is_shape dims formats order =
    are_decimals 120 dims && (nat_le (length (numbers 120 dims)) 8
    && (list_all is_format_letter formats && (length formats == length (numbers 120 dims)
    && (are_decimals 44 order && (list_all (nat_le 1) (numbers 44 order)
    && is_order (length (numbers 120 dims)) (zero_based (numbers 44 order)))))))

abbrev pub tensor_with : List ℕ → List ℕ → List ℕ → List ℕ → List ℕ → Tensor
tensor_with name dims formats order file = record {
  name = name;
  dims = numbers 120 dims;
  formats = map format_of formats;
  order = zero_based (numbers 44 order);
  file = file;
}

-- a result without dimensions
abbrev pub scalar : List ℕ → Tensor
scalar name = record { name = name; dims = []; formats = []; order = []; file = [] }

abbrev pub is_printable : ℕ → Bool
is_printable b = nat_le 33 b && nat_le b 126

-- what the words behind `tensor` declare
abbrev pub tensor_of : List (List ℕ) → Option Tensor
tensor_of (name ∷ dims ∷ formats ∷ order ∷ file ∷ []) =
    if is_name name && (list_all is_printable file && is_shape dims formats order) then Some (tensor_with name dims formats order file) else None
tensor_of words = None

-- what the words behind `result` declare
abbrev pub result_of : List (List ℕ) → Option Tensor
result_of (name ∷ []) = if is_name name then Some (scalar name) else None
result_of (name ∷ dims ∷ formats ∷ order ∷ []) = if is_name name && is_shape dims formats order then Some (tensor_with name dims formats order []) else None
result_of words = None

-- A declaration is refused for its form, then for its dimensions, then for its name.
abbrev pub declared : List Tensor → ℕ → Option Tensor → Result Tensor ProgramRefusal
declared tensors line None = program_refused BadLine line
declared tensors line (Some t) =
    if not (list_all is_dimension t.dims) then program_refused DimensionRange line
    else (if is_taken t.name tensors then program_refused (DuplicateName t.name) line
    else Ok t)
