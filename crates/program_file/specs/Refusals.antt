-- Why a program file is refused: a kind and a line.
use Rattle.std.specs.Prelude.{◌≡◌, ℕ, Result, Ok, Err}
use Rattle.sam_base.specs.declared.faults.ProgramKind.{ProgramKind}
use Rattle.program_file.specs.declared.faults.ProgramFault.{ProgramFault}
use Rattle.program_file.specs.declared.faults.ProgramFault.TheVariants.{Refused, OutOfMemory}

pub record ProgramRefusal : Type 0 where
  pub kind : ProgramKind
  pub line : ℕ

abbrev pub program_refused : {Y : Type 0} → ProgramKind → ℕ → Result Y ProgramRefusal
program_refused kind line = Err (record { kind = kind; line = line })

-- and then, unless it is refused
abbrev pub and_then : {Y Z : Type 0} → Result Y ProgramRefusal → (Y → Result Z ProgramRefusal) → Result Z ProgramRefusal
and_then (Ok x) next = next x
and_then (Err e) next = Err e

-- What a function returned is what was to be read, unless memory ran out.
abbrev pub FailsProgram : {Y : Type 0} → ProgramFault → Result Y ProgramRefusal → Type 0
FailsProgram OutOfMemory read = Unit {0}
FailsProgram (Refused kind line) read = read ≡ Err (record { kind = kind; line = line })

abbrev pub GivesProgram : {Y : Type 0} → Result Y ProgramFault → Result Y ProgramRefusal → Type 0
GivesProgram (Ok x) read = read ≡ Ok x
GivesProgram (Err e) read = FailsProgram e read

-- What a function returned makes, with what it left behind, what was to be read, unless memory ran out.
abbrev pub LeavesProgram : {Y Z : Type 0} → Result Y ProgramFault → (Y → Z) → Result Z ProgramRefusal → Type 0
LeavesProgram (Ok x) made read = read ≡ Ok (made x)
LeavesProgram (Err e) made read = FailsProgram e read
