-- The kind of a block, by its word, its numbers and its name.
use Rattle.std.specs.Prelude.{ℕ, ◌+◌, ◌^◌, ◌&&◌, List, [], ◌∷◌, Bool, codes, map, length, get_or, nat_lt, nat_le, Option, Some, None, option_map, option_and_then, if◌then◌else◌}
use Rattle.std.specs.List.{position}
use Rattle.std.specs.Str.{bytes_eq}
use Rattle.sam_model.specs.declared.tensors.Tensor.{Tensor}
use Rattle.sam_model.specs.declared.program.Program.{Program}
use Rattle.graph.specs.declared.graphs.Kind.{Kind}
use Rattle.graph.specs.declared.graphs.Kind.TheVariants.{Root, Scan, Repeat, Cast, Drain, Intersect, Union, Array, Mul, Add, Sub, Const, SumScalar, SumVector, SumMatrix, DropValue, DropFiber, Fill, WriteLevel, WriteValue}
use Rattle.label_reading.specs.Words.{if_holds}

-- the first tensor of a name, by its number
abbrev pub tensor_named : Program → List ℕ → Option ℕ
tensor_named p name =
    option_and_then (λ n. if_holds (nat_lt n (2 ^ 32)) n) (position (λ (t : Tensor). bytes_eq t.name name) p.tensors)

abbrev pub tensor_dims : Program → ℕ → List ℕ
tensor_dims p n = get_or (map (λ (t : Tensor). t.dims) p.tensors) n []

abbrev pub level_fits : Program → ℕ → ℕ → Bool
level_fits p tensor level = nat_le 1 level && nat_le level (length (tensor_dims p tensor)) && nat_lt level 256

abbrev pub scan_with : Program → List ℕ → ℕ → Option Kind
scan_with p name level = option_and_then (λ tensor. if_holds (level_fits p tensor level) (Scan tensor level)) (tensor_named p name)

abbrev pub array_with : Program → List ℕ → Option Kind
array_with p name = option_map (λ tensor. Array tensor) (tensor_named p name)

-- at most eight payloads on both sides together
abbrev pub pair_fits : ℕ → ℕ → Bool
pair_fits left right = nat_le left 8 && nat_le right 8 && nat_le (left + right) 8

-- a kind without numbers that reads no tensor
abbrev pub plain_with : List ℕ → Option Kind
plain_with word =
    if bytes_eq word (codes "root") then Some Root
    else if bytes_eq word (codes "repeat") then Some Repeat
    else if bytes_eq word (codes "drain") then Some Drain
    else if bytes_eq word (codes "mul") then Some Mul
    else if bytes_eq word (codes "add") then Some Add
    else if bytes_eq word (codes "sub") then Some Sub
    else if bytes_eq word (codes "sumscalar") then Some SumScalar
    else if bytes_eq word (codes "sumvector") then Some SumVector
    else if bytes_eq word (codes "summatrix") then Some SumMatrix
    else if bytes_eq word (codes "dropvalue") then Some DropValue
    else if bytes_eq word (codes "dropfiber") then Some DropFiber
    else if bytes_eq word (codes "writevalue") then Some WriteValue
    else None

-- how the numbers of a kind are taken, by how many it has

abbrev pub with_none : Option Kind → List ℕ → Option Kind
with_none kind [] = kind
with_none kind _ = None

abbrev pub with_one : (ℕ → Option Kind) → List ℕ → Option Kind
with_one kind (n ∷ []) = kind n
with_one kind _ = None

abbrev pub with_two : (ℕ → ℕ → Option Kind) → List ℕ → Option Kind
with_two kind (m ∷ n ∷ []) = kind m n
with_two kind _ = None

abbrev pub kind_with : Program → List ℕ → List ℕ → List ℕ → Option Kind
kind_with p word numbers name =
    if bytes_eq word (codes "scan") then with_one (scan_with p name) numbers
    else if bytes_eq word (codes "array") then with_none (array_with p name) numbers
    else if bytes_eq word (codes "cast") then with_one (λ outs. if_holds (nat_lt outs (2 ^ 32)) (Cast outs)) numbers
    else if bytes_eq word (codes "intersect") then with_two (λ left right. if_holds (pair_fits left right) (Intersect left right)) numbers
    else if bytes_eq word (codes "union") then with_two (λ left right. if_holds (pair_fits left right) (Union left right)) numbers
    else if bytes_eq word (codes "const") then with_one (λ value. Some (Const value)) numbers
    else if bytes_eq word (codes "fill") then with_one (λ payloads. if_holds (nat_le payloads 8) (Fill payloads)) numbers
    else if bytes_eq word (codes "writelevel") then with_one (λ level. if_holds (nat_lt level 256) (WriteLevel level)) numbers
    else with_none (plain_with word) numbers
