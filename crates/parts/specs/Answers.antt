-- When the answers of a part come, and which is due.
use Rattle.std.specs.Prelude.{◌≡◌, ◌≤◌, ◌⊎◌, Some, Result, Ok, Err}
use Rattle.sam_base.specs.declared.faults.Fault.{Fault}
use Rattle.sam_base.specs.declared.faults.Fault.TheVariants.{Missing, ReadFault, OutOfMemory}
use Rattle.sam_base.specs.Causes.{Rose}
use Rattle.sam_io.specs.Outside.{Told, IsAt}
use Rattle.sam_io.specs.Spans.{FilesSpan}
use Rattle.parts.specs.Parts.{Part}

-- the count that rose with a fault; a file that can't be read is the one that was being read
abbrev pub Counted : FilesSpan → Fault → Type 0
Counted files (Missing name) = Rose files.misses_before files.misses_now
Counted files (ReadFault name) = Rose files.faults_before files.faults_now × IsAt name files.place
Counted files _ = Unit {0}

-- when an answer comes
abbrev pub Comes : {A : Type 0} → Part A → FilesSpan → Result A Fault → Type 0
Comes p files (Ok a) = p files.told (Ok a)
Comes p files (Err fault) = (fault ≡ OutOfMemory) ⊎ (p files.told (Err fault) × Counted files fault)

-- an answer that comes whatever the files
abbrev pub ComesAlways : {A : Type 0} → Part A → Result A Fault → Type 0
ComesAlways p r = (files : FilesSpan) → Comes p files r

-- what a told map decides: not what only a count can tell, and not want of memory
abbrev pub IsDecided : Fault → Type 0
IsDecided (ReadFault name) = ⊥
IsDecided OutOfMemory = ⊥
IsDecided _ = Unit {0}

abbrev pub IsDue : {A : Type 0} → Result A Fault → Type 0
IsDue (Ok a) = Unit {0}
IsDue (Err fault) = IsDecided fault

-- over a told map at most one answer is due
abbrev pub AtMostOne : {A : Type 0} → Part A → Type 0
AtMostOne {A = A} p =
    (m : Told) (r s : Result A Fault) → IsDue r → IsDue s → p (Some m) r → p (Some m) s → r ≡ s

-- where no count of faults rose, the answer that is due is given, or there was no memory
abbrev pub Settles : {A : Type 0} → Part A → FilesSpan → Result A Fault → Type 0
Settles {A = A} p files r =
    (m : Told) (s : Result A Fault) → files.told ≡ Some m → IsDue s → p (Some m) s →
    ¬ Rose files.faults_before files.faults_now → (r ≡ s) ⊎ (r ≡ Err OutOfMemory)

-- this fault, or there was no memory for its name
abbrev pub IsFault : Fault → Fault → Type 0
IsFault wanted fault = (fault ≡ wanted) ⊎ (fault ≡ OutOfMemory)

-- the rest of a call: it ends as the whole does, and its counts began no lower
pub record IsRest (whole rest : FilesSpan) : Type 0 where
  pub told : rest.told ≡ whole.told
  pub place : rest.place ≡ whole.place
  pub faults : whole.faults_before ≤ rest.faults_before
  pub faults_now : rest.faults_now ≡ whole.faults_now
  pub misses : whole.misses_before ≤ rest.misses_before
  pub misses_now : rest.misses_now ≡ whole.misses_now
