-- Which program a text of the right form writes, whether or not it is accepted.
use Rattle.std.specs.Prelude.{◌≡◌, ℕ, true, List, [], ◌∷◌, Option, Some, None, Ok}
use Rattle.std.specs.Str.{bytes_eq}
use Rattle.sam_model.specs.declared.tensors.Tensor.{Tensor}
use Rattle.sam_model.specs.declared.program.Program.{Program}
use Rattle.notation.specs.declared.statement.AccessText.{AccessText}
use Rattle.program_file.specs.declared.accesses.Variable.{Variable}
use Rattle.program_file.specs.declared.files.File.{File}
use Rattle.program_file.specs.Accesses.{with_variables, tensor_named}
use Rattle.program_file.specs.Statements.{right_accesses}
use Rattle.program_file.specs.Files.{file_reading}
use Rattle.program_file.specs.Programs.{program_of}

-- the variables so far, with those of an access of this tensor
abbrev pub access_variables : List Variable → AccessText → Option Tensor → List Variable
access_variables vars a None = vars
access_variables vars a (Some t) = with_variables vars a.vars t.dims

abbrev pub bound_variables : List Tensor → List Variable → List AccessText → List Variable
bound_variables tensors vars [] = vars
bound_variables tensors vars (a ∷ accesses) = bound_variables tensors (access_variables vars a (tensor_named a.name tensors)) accesses

-- the variables of a file's statement in the order of their first places, with the dimensions there
abbrev pub variables_of : File → List Variable
variables_of f = bound_variables f.tensors (with_variables [] f.statement.left.vars f.result.dims) (right_accesses f.statement)

-- A text of the right form, whose left name is the result's, writes this program.
pub record Writes (text : List ℕ) (p : Program) : Type 0 where
  pub file : File
  pub read : file_reading text ≡ Ok file
  pub left : bytes_eq file.statement.left.name file.result.name ≡ true
  pub is : program_of file (variables_of file) ≡ p
