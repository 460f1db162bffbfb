-- The printed names of the kinds of faults.
use Rattle.std.specs.Prelude.{ℕ, List, ◌++◌, codes, decimal}
use Rattle.sam_base.specs.declared.faults.NoteKind.{NoteKind}
use Rattle.sam_base.specs.declared.faults.NoteKind.TheVariants as note
use Rattle.sam_base.specs.declared.faults.ProgramKind.{ProgramKind}
use Rattle.sam_base.specs.declared.faults.ProgramKind.TheVariants as program
use Rattle.sam_base.specs.declared.faults.Rule.{Rule}
use Rattle.sam_base.specs.declared.faults.Rule.TheVariants as rule
use Rattle.sam_base.specs.declared.faults.TnsKind.{TnsKind}
use Rattle.sam_base.specs.declared.faults.TnsKind.TheVariants as tns

abbrev pub note_kind : NoteKind → List ℕ
note_kind note.BadChar = codes "BadChar"
note_kind note.ExpectedName = codes "ExpectedName"
note_kind note.ExpectedOpen = codes "ExpectedOpen"
note_kind note.ExpectedComma = codes "ExpectedComma"
note_kind note.ExpectedEquals = codes "ExpectedEquals"
note_kind note.TooDeep = codes "TooDeep"
note_kind note.NumberTooLarge = codes "NumberTooLarge"
note_kind note.ExpectedFactor = codes "ExpectedFactor"
note_kind note.ExpectedOperator = codes "ExpectedOperator"
note_kind note.TooManyTerms = codes "TooManyTerms"
note_kind note.TooManyFactors = codes "TooManyFactors"

-- a kind of the program file, with its name or place where it has one
abbrev pub program_kind : ProgramKind → List ℕ
program_kind program.FileTooLong = codes "FileTooLong"
program_kind program.ManyStatements = codes "ManyStatements"
program_kind program.TooManyStatements = codes "TooManyStatements"
program_kind program.BadLine = codes "BadLine"
program_kind program.DimensionRange = codes "DimensionRange"
program_kind (program.DuplicateName name) = codes "DuplicateName " ++ name
program_kind (program.Note kind place) = note_kind kind ++ codes " " ++ decimal place
program_kind (program.UnknownName name) = codes "UnknownName " ++ name
program_kind (program.ResultOnRight name) = codes "ResultOnRight " ++ name
program_kind (program.ScalarOperand name) = codes "ScalarOperand " ++ name
program_kind (program.ArityMismatch name) = codes "ArityMismatch " ++ name
program_kind (program.RepeatedVariable name) = codes "RepeatedVariable " ++ name
program_kind (program.DimMismatch name) = codes "DimMismatch " ++ name
program_kind (program.UnusedSum name) = codes "UnusedSum " ++ name
program_kind (program.BoundVariable name) = codes "BoundVariable " ++ name
program_kind program.ExpandedTerms = codes "ExpandedTerms"
program_kind program.ExpandedFactors = codes "ExpandedFactors"
program_kind program.NoAccess = codes "NoAccess"
program_kind (program.MissingResultVariable name) = codes "MissingResultVariable " ++ name
program_kind program.TooManyVariables = codes "TooManyVariables"
program_kind program.LoopsMismatch = codes "LoopsMismatch"
program_kind (program.Discordant name) = codes "Discordant " ++ name
program_kind (program.ReducerTooDeep name) = codes "ReducerTooDeep " ++ name

abbrev pub tns_kind : TnsKind → List ℕ
tns_kind tns.FieldCount = codes "FieldCount"
tns_kind tns.BadField = codes "BadField"
tns_kind tns.CoordinateRange = codes "CoordinateRange"
tns_kind tns.Fraction = codes "Fraction"
tns_kind tns.ValueRange = codes "ValueRange"
tns_kind tns.TooManyEntries = codes "TooManyEntries"
tns_kind tns.FileTooLong = codes "FileTooLong"
tns_kind tns.TooManyPositions = codes "TooManyPositions"

abbrev pub rule_kind : Rule → List ℕ
rule_kind rule.Ports = codes "Ports"
rule_kind rule.Stray = codes "Stray"
rule_kind rule.Cycle = codes "Cycle"
rule_kind rule.Writers = codes "Writers"
rule_kind rule.Labels = codes "Labels"
