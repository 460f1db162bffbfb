-- What JSON tells of a block's kind: its word, its numbers and its name.
use Rattle.std.specs.Prelude.{ℕ, List, [], ◌∷◌, codes, map, get_or}
use Rattle.sam_model.specs.declared.tensors.Tensor.{Tensor}
use Rattle.sam_model.specs.declared.program.Program.{Program}
use Rattle.graph.specs.declared.graphs.Kind.{Kind}
use Rattle.graph.specs.declared.graphs.Kind.TheVariants.{Root, Scan, Repeat, Cast, Drain, Intersect, Union, Array, Mul, Add, Sub, Const, SumScalar, SumVector, SumMatrix, DropValue, DropFiber, Fill, WriteLevel, WriteValue}

abbrev pub kind_word : Kind → List ℕ
kind_word Root = codes "root"
kind_word (Scan tensor level) = codes "scan"
kind_word Repeat = codes "repeat"
kind_word (Cast outs) = codes "cast"
kind_word Drain = codes "drain"
kind_word (Intersect left right) = codes "intersect"
kind_word (Union left right) = codes "union"
kind_word (Array tensor) = codes "array"
kind_word Mul = codes "mul"
kind_word Add = codes "add"
kind_word Sub = codes "sub"
kind_word (Const value) = codes "const"
kind_word SumScalar = codes "sumscalar"
kind_word SumVector = codes "sumvector"
kind_word SumMatrix = codes "summatrix"
kind_word DropValue = codes "dropvalue"
kind_word DropFiber = codes "dropfiber"
kind_word (Fill payloads) = codes "fill"
kind_word (WriteLevel level) = codes "writelevel"
kind_word WriteValue = codes "writevalue"

-- a kind's numbers; a tensor is told by its name
abbrev pub kind_numbers : Kind → List ℕ
kind_numbers (Scan tensor level) = level ∷ []
kind_numbers (Cast outs) = outs ∷ []
kind_numbers (Intersect left right) = left ∷ right ∷ []
kind_numbers (Union left right) = left ∷ right ∷ []
kind_numbers (Const value) = value ∷ []
kind_numbers (Fill payloads) = payloads ∷ []
kind_numbers (WriteLevel level) = level ∷ []
kind_numbers _ = []

-- the name of a program's tensor, by its number; it is empty where there is none
abbrev pub tensor_name : Program → ℕ → List ℕ
tensor_name p n = get_or (map (λ (t : Tensor). t.name) p.tensors) n []

-- the tensor that a block reads, or the result that it writes
abbrev pub kind_name : Program → Kind → List ℕ
kind_name p (Scan tensor level) = tensor_name p tensor
kind_name p (Array tensor) = tensor_name p tensor
kind_name p (WriteLevel level) = p.result.name
kind_name p WriteValue = p.result.name
kind_name p _ = []
