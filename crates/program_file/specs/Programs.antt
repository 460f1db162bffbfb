-- The program of a file, and the first fault of a text.
use Rattle.std.specs.Prelude.{ℕ, not, nat_lt, List, length, if◌then◌else◌, Option, Result, Ok}
use mathlib.Core.List.{map}
use Rattle.sam_base.specs.declared.TheConstants.{VARIABLES_MOST}
use Rattle.sam_base.specs.declared.faults.ProgramKind.{ProgramKind}
use Rattle.sam_base.specs.declared.faults.ProgramKind.TheVariants.{UnusedSum, TooManyVariables, LoopsMismatch}
use Rattle.sam_model.specs.declared.program.Term.{Term}
use Rattle.sam_model.specs.declared.program.Program.{Program}
use Rattle.sam_model.specs.Trees.{TopTree}
use Rattle.sam_model.specs.Expressions.{expanded_tops}
use Rattle.program_file.specs.declared.accesses.Variable.{Variable}
use Rattle.program_file.specs.declared.files.File.{File}
use Rattle.program_file.specs.Refusals.{ProgramRefusal, program_refused, and_then}
use Rattle.program_file.specs.Numbers.{are_loops, numbering, places, size_of}
use Rattle.program_file.specs.Statements.{right_accesses, right_sums, tops_of}
use Rattle.program_file.specs.Accesses.{bind_left, bind_accesses, named_kind, unless}
use Rattle.program_file.specs.Checks.{first_of, unused, tops_bind_wrong, expansion_fault, terms_fault, terms_deep, access_discordant}
use Rattle.program_file.specs.Checks.{accesses_discordant}
use Rattle.program_file.specs.Files.{file_reading}

-- ---- a file's statement by numbers, where its variables have these names

module _ (names : List (List ℕ)) (f : File) where
  abbrev pub left_of : List ℕ
  left_of = places names f.statement.left.vars

  abbrev pub file_tops : List TopTree
  file_tops = tops_of f.tensors names left_of f.statement

  module _ (vars : List Variable) where
    abbrev pub sizes_of : List ℕ
    sizes_of = map (size_of vars) names

    abbrev pub terms_of : List Term
    terms_of = expanded_tops sizes_of file_tops

-- the program of a file whose statement is this by numbers
abbrev pub program_with : File → List ℕ → List Term → List TopTree → List ℕ → Program
program_with f left terms tops sizes = record {
  tensors = f.tensors;
  result = f.result;
  left = left;
  terms = terms;
  tops = tops;
  var_names = f.loops;
  var_sizes = sizes;
}

-- the program that a file writes: tensors and variables by their numbers, variables in loop order
abbrev pub program_of : File → List Variable → Program
program_of f vars = program_with f (left_of f.loops f) (terms_of f.loops f vars) (file_tops f.loops f) (sizes_of f.loops f vars)

-- ---- the checks

-- the first fault of the loops' order: the accesses, left first, then the sums of these terms
abbrev pub order_fault : File → List Term → Option ProgramKind
order_fault f terms =
    first_of (access_discordant f.loops f.statement.left f.result)
    (first_of (accesses_discordant f.tensors f.loops (right_accesses f.statement)) (terms_deep f.loops (left_of f.loops f) terms))

-- the checks of the line with the loops, in their order
abbrev pub loops_checked : File → List Variable → List Term → Result (Unit {0}) ProgramRefusal
loops_checked f vars terms =
    if not (are_loops vars f.loops) then program_refused LoopsMismatch f.loops_line
    else unless f.loops_line (order_fault f terms) (tt {0})

-- the checks of the expanded terms and of how many variables there are, and then those of the loops
abbrev pub terms_checked : List (List ℕ) → File → List Variable → List Term → Result (Unit {0}) ProgramRefusal
terms_checked names f vars terms =
    and_then (unless f.statement_line (terms_fault names f.statement.left.vars terms) (tt {0})) (λ _.
    if nat_lt VARIABLES_MOST (length vars) then program_refused TooManyVariables f.statement_line else loops_checked f vars terms)

-- the expanded terms, unless there are too many of them or of their factors
abbrev pub expansion_checked : ℕ → List Term → Result (List Term) ProgramRefusal
expansion_checked line terms = unless line (expansion_fault terms) terms

-- the first fault of the sums: one over a variable that stands nowhere, and then one over a variable that it may not be over
abbrev pub sums_fault : List (List ℕ) → File → List Variable → List ℕ → List TopTree → Option ProgramKind
sums_fault names f vars left tops = named_kind UnusedSum (unused vars (right_sums f.statement)) (tops_bind_wrong names left tops)

abbrev pub sums_checked : List (List ℕ) → File → List Variable → List ℕ → List TopTree → Result (Unit {0}) ProgramRefusal
sums_checked names f vars left tops = unless f.statement_line (sums_fault names f vars left tops) (tt {0})

-- the checks of the statement behind those of its accesses, and then those of the loops, where variables have these names
abbrev pub checked_with : List (List ℕ) → File → List Variable → Result (Unit {0}) ProgramRefusal
checked_with names f vars =
    and_then (sums_checked names f vars (left_of names f) (file_tops names f)) (λ _.
    and_then (expansion_checked f.statement_line (terms_of names f vars)) (λ terms. terms_checked names f vars terms))

abbrev pub statement_checked : File → List Variable → Result (Unit {0}) ProgramRefusal
statement_checked f vars = checked_with (numbering vars f.loops) f vars

-- what is read of a file whose statement is this by numbers, where variables have these names
abbrev pub numbered_reading : List (List ℕ) → File → List Variable → List ℕ → List TopTree → List ℕ → Result Program ProgramRefusal
numbered_reading names f vars left tops sizes =
    and_then (sums_checked names f vars left tops) (λ _.
    and_then (expansion_checked f.statement_line (expanded_tops sizes tops)) (λ terms.
    and_then (terms_checked names f vars terms) (λ _. Ok (program_with f left terms tops sizes))))

abbrev pub bound_of : File → Result (List Variable) ProgramRefusal
bound_of f =
    and_then (bind_left f.statement_line f.result f.statement.left)
    (λ vars. bind_accesses f.statement_line f.tensors f.scalars f.result vars (right_accesses f.statement))

abbrev pub checked : File → Result Program ProgramRefusal
checked f = and_then (bound_of f) (λ vars. and_then (statement_checked f vars) (λ _. Ok (program_of f vars)))

-- the program that a text writes, or its first fault: the lines first, then the checks
abbrev pub program_reading : List ℕ → Result Program ProgramRefusal
program_reading text = and_then (file_reading text) checked
