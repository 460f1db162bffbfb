-- Program files of several statements: the groups of their lines, and the chain of programs that these write.
use Rattle.std.specs.Prelude.{ℕ, zero, suc, ◌+◌, ◌-◌, Bool, cond, List, [], ◌∷◌, ◌++◌, length, eqb, if◌then◌else◌, Result, Ok}
use Rattle.std.specs.List.{list_any}
use Rattle.std.specs.Str.{bytes_eq}
use mathlib.Core.List.{map}
use Rattle.sam_base.specs.declared.faults.ProgramKind.TheVariants.{BadLine, TooManyStatements, DuplicateName}
use Rattle.sam_text.specs.Lines.{lines}
use Rattle.sam_text.specs.Words.{words}
use Rattle.sam_text.specs.Counted.{NumberedLine, counted_lines}
use Rattle.sam_model.specs.declared.tensors.Tensor.{Tensor}
use Rattle.sam_model.specs.declared.program.Chain.{Chain}
use Rattle.sam_model.specs.declared.program.Program.{Program}
use Rattle.sam_model.specs.Chains.{and_result}
use Rattle.program_file.specs.declared.files.Group.{Group}
use Rattle.program_file.specs.declared.groups.ChainFile.{ChainFile}
use Rattle.sam_base.specs.declared.TheConstants.{STATEMENTS_MOST}
use Rattle.program_file.specs.Refusals.{ProgramRefusal, program_refused, and_then}
use Rattle.program_file.specs.Keywords.{result_word, starts}
use Rattle.program_file.specs.Files.{Part, result_declared, declarations_in, group_in, file_with}
use Rattle.program_file.specs.Programs.{checked}

-- ---- lines

-- the result of one of these groups has this name
abbrev pub is_result : List ℕ → List Group → Bool
is_result name groups = list_any (λ g. bytes_eq name g.result.name) groups

-- the result that a line behind these groups declares
abbrev pub later_result : List Tensor → List Group → NumberedLine → Result Tensor ProgramRefusal
later_result tensors groups l =
    and_then (result_declared tensors l) (λ t.
    if is_result t.name groups then program_refused (DuplicateName t.name) l.number else Ok t)

-- the group behind these that begins with a line
abbrev pub later_group : ℕ → List Tensor → List Group → NumberedLine → List NumberedLine → Part Group
later_group past tensors groups l ls = and_then (later_result tensors groups l) (λ t. group_in past (t, l.number) ls)

-- behind the last group that a file may have nothing stands
abbrev pub last_in : List NumberedLine → Result (Unit {0}) ProgramRefusal
last_in [] = Ok tt
last_in (l ∷ ls) =
    if starts result_word (words l.text)
    then program_refused TooManyStatements l.number
    else program_refused BadLine l.number

-- these groups and those behind them, of which there may be so many
abbrev pub groups_in : ℕ → List Tensor → ℕ → List Group → List NumberedLine → Result (List Group) ProgramRefusal
groups_in past tensors zero groups ls = and_then (last_in ls) (λ _. Ok groups)
groups_in past tensors (suc room) groups [] = Ok groups
groups_in past tensors (suc room) groups (l ∷ ls) =
    and_then (later_group past tensors groups l ls) (λ g. groups_in past tensors room (groups ++ g.0 ∷ []) g.1)

-- tensors and then groups, where `past` is one more than the number of lines
abbrev pub chain_parts_in : ℕ → List NumberedLine → Result ChainFile ProgramRefusal
chain_parts_in past ls =
    and_then (declarations_in past [] ls) (λ d.
    and_then (group_in past d.0.1 d.1) (λ g.
    and_then (groups_in past d.0.0 (STATEMENTS_MOST - 1) (g.0 ∷ []) g.1) (λ groups.
    Ok (record { tensors = d.0.0; groups = groups }))))

-- the tensors and groups that a text spells, or the first fault of its lines
abbrev pub chain_file_reading : List ℕ → Result ChainFile ProgramRefusal
chain_file_reading text = chain_parts_in (1 + length (lines text)) (counted_lines 1 (lines text))

-- ---- steps

-- with the name of one more result, where it has no dimensions
abbrev pub and_scalar : Tensor → List (List ℕ) → List (List ℕ)
and_scalar t scalars = cond (eqb (length t.dims) 0) (scalars ++ t.name ∷ []) scalars

-- The programs of groups, or their first fault. The first may read these tensors, and the results before it that have no
-- dimensions have these names.
abbrev pub steps_of : List Tensor → List (List ℕ) → List Group → Result (List Program) ProgramRefusal
steps_of tensors scalars [] = Ok []
steps_of tensors scalars (g ∷ groups) =
    and_then (checked (file_with tensors scalars g)) (λ p.
    and_then (steps_of (and_result g.result tensors g.result) (and_scalar g.result scalars) groups) (λ steps. Ok (p ∷ steps)))

-- the lines of the results
abbrev pub lines_of : List Group → List ℕ
lines_of groups = map (λ g. g.result_line) groups

abbrev pub chain_of : ChainFile → Result Chain ProgramRefusal
chain_of f = and_then (steps_of f.tensors [] f.groups) (λ steps. Ok (record { steps = steps; lines = lines_of f.groups }))

-- the chain that a text writes, or its first fault: the lines first, then the checks, group by group
abbrev pub chain_reading : List ℕ → Result Chain ProgramRefusal
chain_reading text = and_then (chain_file_reading text) chain_of
