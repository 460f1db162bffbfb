-- What a command answers, and what it leaves on the sinks.
use Rattle.std.specs.Prelude.{◌≡◌, ℕ, ◌⊎◌, List, Result, Ok, Err}
use Rattle.sam_base.specs.declared.faults.Fault.{Fault}
use Rattle.sam_base.specs.declared.faults.Fault.TheVariants.{WriteFault, OutOfMemory}
use Rattle.sam_base.specs.Causes.{Rose}
use Rattle.sam_base.specs.Texts.{status_of, text_of}
use Rattle.sam_io.specs.Outside.{grown, GrewByPart}
use Rattle.sam_io.specs.Spans.{FilesSpan, SinkSpan}
use Rattle.parts.specs.Parts.{Part}
use Rattle.parts.specs.Answers.{Comes, Settles}

-- the whole text was written, or the count rose and a prefix of it was
abbrev pub Said : SinkSpan → List ℕ → Type 0
Said sink text =
    (sink.now ≡ grown sink.before text) ⊎ (Rose sink.faults_before sink.faults_now × GrewByPart sink.before sink.now text)

pub record Wrote (text : List ℕ) (out err : SinkSpan) (status : ℕ) : Type 0 where
  pub is_status : status ≡ 0
  pub whole : out.now ≡ grown out.before text
  pub quiet : err.now ≡ err.before

pub record WroteInPart (text : List ℕ) (out err : SinkSpan) (status : ℕ) : Type 0 where
  pub is_status : status ≡ status_of WriteFault
  pub cause : Rose out.faults_before out.faults_now
  pub part : GrewByPart out.before out.now text
  pub said : Said err (text_of WriteFault)

pub record Refused (fault : Fault) (out err : SinkSpan) (status : ℕ) : Type 0 where
  pub is_status : status ≡ status_of fault
  pub nothing : out.now ≡ out.before
  pub said : Said err (text_of fault)

-- what each answer leaves on the sinks, with its status
abbrev pub Leaves : Result (List ℕ) Fault → SinkSpan → SinkSpan → ℕ → Type 0
Leaves (Ok text) out err status = Wrote text out err status ⊎ WroteInPart text out err status
Leaves (Err fault) out err status = Refused fault out err status

-- of these answers some one came by its cause, was the one that was due, and was given
pub record Answered (answers : Part (List ℕ)) (files : FilesSpan) (out err : SinkSpan) (status : ℕ) : Type 0 where
  pub answer : Result (List ℕ) Fault
  pub comes : Comes answers files answer
  pub settles : Settles answers files answer
  pub leaves : Leaves answer out err status

-- this answer was given, or that there is no memory
pub record Gives (answer : Result (List ℕ) Fault) (out err : SinkSpan) (status : ℕ) : Type 0 where
  pub given : Result (List ℕ) Fault
  pub which : (given ≡ answer) ⊎ (given ≡ Err OutOfMemory)
  pub leaves : Leaves given out err status

-- that fault was said, or that there is no memory
pub record ReportsFault (fault : Fault) (err : SinkSpan) (status : ℕ) : Type 0 where
  pub told_fault : Fault
  pub which : (told_fault ≡ fault) ⊎ (told_fault ≡ OutOfMemory)
  pub is_status : status ≡ status_of told_fault
  pub said : Said err (text_of told_fault)
