-- Why a text is refused: a kind, and the place of the first byte of the fault.
use Rattle.std.specs.Prelude.{◌≡◌, ℕ, Result, Ok, Err}
use Rattle.sam_base.specs.declared.faults.NoteKind.{NoteKind}
use Rattle.notation.specs.declared.statement.NoteFault.{NoteFault}
use Rattle.notation.specs.declared.statement.NoteFault.TheVariants.{Refused, OutOfMemory}

pub record NoteRefusal : Type 0 where
  pub kind : NoteKind
  pub place : ℕ

-- What a function returned is what was to be read, unless memory ran out.
abbrev pub FailsNote : {Y : Type 0} → NoteFault → Result Y NoteRefusal → Type 0
FailsNote OutOfMemory read = Unit {0}
FailsNote (Refused kind place) read = read ≡ Err (record { kind = kind; place = place })

abbrev pub GivesNote : {Y : Type 0} → Result Y NoteFault → Result Y NoteRefusal → Type 0
GivesNote (Ok x) read = read ≡ Ok x
GivesNote (Err e) read = FailsNote e read

abbrev pub RefusedWith : NoteFault → (NoteRefusal → Type 0) → Type 0
RefusedWith OutOfMemory P = Unit {0}
RefusedWith (Refused kind place) P = P (record { kind = kind; place = place })

-- a fact for a refusal
abbrev pub IfNoteRefused : {Y : Type 0} → Result Y NoteFault → (NoteRefusal → Type 0) → Type 0
IfNoteRefused (Ok x) P = Unit {0}
IfNoteRefused (Err e) P = RefusedWith e P
