-- Program files of several statements, tried by hand.
use Rattle.std.proofs.Common.{◌≡◌, ℕ, ◌+◌, List, [], ◌∷◌, false, Result, Ok, Err, refl, codes}
use mathlib.Core.List.{map}
use Rattle.sam_base.specs.declared.faults.ProgramKind.TheVariants.{BadLine, TooManyStatements, DuplicateName, UnknownName, ResultOnRight, ScalarOperand, ArityMismatch}
use Rattle.sam_text.specs.Counted.{NumberedLine}
use Rattle.sam_model.specs.declared.tensors.Format.TheVariants.{Compressed}
use Rattle.sam_model.specs.declared.tensors.Tensor.{Tensor}
use Rattle.sam_model.specs.declared.program.Factor.TheVariants as factor
use Rattle.sam_model.specs.declared.program.Program.{Program}
use Rattle.sam_model.specs.Trees as tree
use Rattle.notation.specs.Trees.{TextTree}
use Rattle.notation.specs.Trees as text
use Rattle.notation.specs.Positions.{run, go, step_of, at_factor, end_of}
use Rattle.program_file.specs.declared.files.Group.{Group}
use Rattle.program_file.specs.declared.groups.ChainFile.{ChainFile}
use Rattle.program_file.specs.Refusals.{ProgramRefusal, program_refused}
use Rattle.program_file.specs.Checks.{has_named}
use Rattle.program_file.specs.Chains.{groups_in, chain_of}

abbrev i : List ℕ
i = codes "i"

-- b is a vector of 4
abbrev vector : List ℕ → Tensor
vector name = record { name = name; dims = 4 ∷ []; formats = Compressed ∷ []; order = 0 ∷ []; file = [] }

abbrev number : List ℕ → Tensor
number name = record { name = name; dims = []; formats = []; order = []; file = [] }

abbrev of : List ℕ → List (List ℕ) → TextTree
of name vars = text.Access (record { name = name; vars = vars; place = 0 })

-- a group of this result, whose first line is this
abbrev group : Tensor → List (List ℕ) → TextTree → ℕ → Group
group result left right line = record {
  result = result;
  statement = record {
    left = record { name = result.name; vars = left; place = 0 };
    tops =
        (record { minus = false; body = right }) ∷ [];
  };
  loops = i ∷ [];
  result_line = line;
  statement_line = line + 1;
  loops_line = line + 2;
}

abbrev file : List Group → ChainFile
file groups = record { tensors = vector (codes "b") ∷ []; groups = groups }

-- y(i) = b(i)
abbrev copied : Group
copied = group (vector (codes "y")) (i ∷ []) (of (codes "b") (i ∷ [])) 2

-- s = b(i)
abbrev summed : Group
summed = group (number (codes "s")) [] (of (codes "b") (i ∷ [])) 2

-- x(i) is this
abbrev last : TextTree → Group
last right = group (vector (codes "x")) (i ∷ []) right 5

-- the program of an access of a tensor alone
abbrev program : List Tensor → Tensor → ℕ → Program
program tensors result n = record {
  tensors = tensors;
  result = result;
  left = 0 ∷ [];
  terms = (record { minus = false; factors = factor.Access n (0 ∷ []) ∷ [] }) ∷ [];
  tops = (record { minus = false; body = tree.Access n (0 ∷ []); implied = [] }) ∷ [];
  var_names = i ∷ [];
  var_sizes = 4 ∷ [];
}

-- y(i) = b(i) and then x(i) = y(i): the result of the first step is the second tensor of the next
two_steps : chain_of (file (copied ∷ last (of (codes "y") (i ∷ [])) ∷ [])) ≡ Ok (record {
  steps = program (vector (codes "b") ∷ []) (vector (codes "y")) 0
      ∷ program (vector (codes "b") ∷ vector (codes "y") ∷ []) (vector (codes "x")) 1 ∷ [];
  lines = 2 ∷ 5 ∷ [];
})
unfolding has_named
two_steps = refl

-- a result without dimensions is told before the number of its variables is looked at
scalar_operand : chain_of (file (summed ∷ last (of (codes "s") (i ∷ [])) ∷ [])) ≡ program_refused (ScalarOperand (codes "s")) 6
unfolding has_named
scalar_operand = refl

-- what stands before it in the text is told before
told_in_turn : chain_of (file (summed ∷ last (text.Times (of (codes "b") []) (of (codes "s") [])) ∷ []))
    ≡ program_refused (ArityMismatch (codes "b")) 6
unfolding has_named
told_in_turn = refl

-- a later group's result isn't known yet
later_unknown : chain_of (file (group (vector (codes "y")) (i ∷ []) (of (codes "x") (i ∷ [])) 2 ∷ last (of (codes "b") (i ∷ [])) ∷ []))
    ≡ program_refused (UnknownName (codes "x")) 3
later_unknown = refl

own_result : chain_of (file (copied ∷ last (of (codes "x") (i ∷ [])) ∷ [])) ≡ program_refused (ResultOnRight (codes "x")) 6
unfolding has_named
own_result = refl

-- ---- lines

abbrev line : ℕ → List ℕ → NumberedLine
line number text = record { number = number; text = text }

abbrev read : Result (List Group) ProgramRefusal → Result (List ℕ) ProgramRefusal
read (Ok groups) = Ok (map (λ g. g.result_line) groups)
read (Err e) = Err e

abbrev tensors : List Tensor
tensors = vector (codes "b") ∷ []

another : read (groups_in 8 tensors 1 (copied ∷ [])
    (line 5 (codes "result s") ∷ line 6 (codes "compute s = b(i)") ∷ line 7 (codes "loops i") ∷ [])) ≡ Ok (2 ∷ 5 ∷ [])
unfolding run go step_of at_factor end_of
another = refl

-- where no more groups may stand, a result is one too many whatever is behind the word
one_too_many : read (groups_in 8 tensors 0 (copied ∷ []) (line 5 (codes "result") ∷ [])) ≡ program_refused TooManyStatements 5
one_too_many = refl

no_result : read (groups_in 8 tensors 1 (copied ∷ []) (line 5 (codes "tensor c 4 c 1 c.tns") ∷ [])) ≡ program_refused BadLine 5
no_result = refl

taken : read (groups_in 8 tensors 1 (copied ∷ []) (line 5 (codes "result y") ∷ [])) ≡ program_refused (DuplicateName (codes "y")) 5
taken = refl

ends_early : read (groups_in 8 tensors 1 (copied ∷ []) (line 5 (codes "result x") ∷ line 6 (codes "compute x = b(i)") ∷ []))
    ≡ program_refused BadLine 8
unfolding run go step_of at_factor end_of
ends_early = refl
