-- What a program file says, line by line, and its first fault.
use Rattle.std.specs.Prelude.{ℕ, ◌+◌, Bool, ◌&&◌, ◌||◌, List, [], ◌∷◌, ◌++◌, length, if◌then◌else◌, Option, Some, None, Result, Ok, Err}
use Rattle.std.specs.List.{list_all}
use Rattle.sam_base.specs.declared.faults.ProgramKind.TheVariants.{BadLine, ManyStatements, Note}
use Rattle.sam_text.specs.Lines.{lines}
use Rattle.sam_text.specs.Words.{words, behind_word}
use Rattle.sam_text.specs.Names.{is_name}
use Rattle.sam_text.specs.Counted.{NumberedLine, counted_lines}
use Rattle.sam_model.specs.declared.tensors.Tensor.{Tensor}
use Rattle.notation.specs.declared.statement.Statement.{Statement}
use Rattle.notation.specs.Refusals.{NoteRefusal}
use Rattle.notation.specs.Positions.{statement_reading}
use Rattle.program_file.specs.declared.files.File.{File}
use Rattle.program_file.specs.declared.files.Group.{Group}
use Rattle.program_file.specs.Refusals.{ProgramRefusal, program_refused, and_then}
use Rattle.program_file.specs.Keywords.{tensor_word, result_word, compute_word, loops_word, starts, others}
use Rattle.program_file.specs.Declarations.{tensor_of, result_of, declared}

-- A part of the file reads some lines: this is what it found, and the lines behind it.
abbrev pub Part : Type 0 → Type 0
Part Y = Result (Y × List NumberedLine) ProgramRefusal

abbrev pub result_declared : List Tensor → NumberedLine → Result Tensor ProgramRefusal
result_declared tensors l =
    declared tensors l.number (if starts result_word (words l.text) then result_of (others (words l.text)) else None)

-- the declarations: tensors, behind those so far, and then the result with its line; `past` is one more than the number of lines
abbrev pub declarations_in : ℕ → List Tensor → List NumberedLine → Part (List Tensor × (Tensor × ℕ))
declarations_in past tensors [] = program_refused BadLine past
declarations_in past tensors (l ∷ ls) =
    if starts tensor_word (words l.text)
    then and_then (declared tensors l.number (tensor_of (others (words l.text)))) (λ t. declarations_in past (tensors ++ t ∷ []) ls)
    else and_then (result_declared tensors l) (λ result. Ok ((tensors, (result, l.number)), ls))

-- a statement's refusal, at its line
abbrev pub noted : ℕ → Result Statement NoteRefusal → Result Statement ProgramRefusal
noted line (Ok x) = Ok x
noted line (Err r) = program_refused (Note r.kind r.place) line

-- the line of the statement, whose text starts right behind the word
abbrev pub compute_in : ℕ → List NumberedLine → Part (Statement × ℕ)
compute_in past [] = program_refused BadLine past
compute_in past (l ∷ ls) =
    if starts compute_word (words l.text)
    then and_then (noted l.number (statement_reading (behind_word l.text))) (λ statement. Ok ((statement, l.number), ls))
    else program_refused BadLine l.number

-- the names of the loops, where the line has this form
abbrev pub loop_names : List (List ℕ) → Option (List (List ℕ))
loop_names ws = if starts loops_word ws && list_all is_name (others ws) then Some (others ws) else None

abbrev pub loops_line : NumberedLine → List NumberedLine → Option (List (List ℕ)) → Part (List (List ℕ) × ℕ)
loops_line l ls None = program_refused BadLine l.number
loops_line l ls (Some names) = Ok ((names, l.number), ls)

-- the line of the loops
abbrev pub loops_in : ℕ → List NumberedLine → Part (List (List ℕ) × ℕ)
loops_in past [] = program_refused BadLine past
loops_in past (l ∷ ls) = loops_line l ls (loop_names (words l.text))

-- a group: a result, its statement and its loops, each with its line
abbrev pub group_with : Tensor × ℕ → Statement × ℕ → List (List ℕ) × ℕ → Group
group_with r s l = record {
  result = r.0;
  statement = s.0;
  loops = l.0;
  result_line = r.1;
  statement_line = s.1;
  loops_line = l.1;
}

-- the group of a result: the lines behind that
abbrev pub group_in : ℕ → Tensor × ℕ → List NumberedLine → Part Group
group_in past r ls =
    and_then (compute_in past ls) (λ s.
    and_then (loops_in past s.1) (λ l. Ok (group_with r s.0 l.0, l.1)))

-- a line that would begin a second statement
abbrev pub starts_again : List (List ℕ) → Bool
starts_again ws = starts result_word ws || (starts tensor_word ws || starts compute_word ws)

-- behind the loops nothing stands
abbrev pub end_in : List NumberedLine → Result (Unit {0}) ProgramRefusal
end_in [] = Ok tt
end_in (l ∷ ls) =
    if starts_again (words l.text)
    then program_refused ManyStatements l.number
    else program_refused BadLine l.number

-- a group that may read these tensors, where the earlier results without dimensions have these names
abbrev pub file_with : List Tensor → List (List ℕ) → Group → File
file_with tensors scalars g = record {
  tensors = tensors;
  scalars = scalars;
  result = g.result;
  statement = g.statement;
  loops = g.loops;
  statement_line = g.statement_line;
  loops_line = g.loops_line;
}

-- the parts one after another, where `past` is one more than the number of lines
abbrev pub parts_in : ℕ → List NumberedLine → Result File ProgramRefusal
parts_in past ls =
    and_then (declarations_in past [] ls) (λ d.
    and_then (group_in past d.0.1 d.1) (λ g.
    and_then (end_in g.1) (λ _. Ok (file_with d.0.0 [] g.0))))

-- the file that a text spells, or the first fault of its lines
abbrev pub file_reading : List ℕ → Result File ProgramRefusal
file_reading text = parts_in (1 + length (lines text)) (counted_lines 1 (lines text))
