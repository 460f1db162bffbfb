-- The files and a sink during one call.
use Rattle.std.specs.Prelude.{◌≡◌, ℕ, ◌≤◌, List, Option}
use Rattle.sam_io.specs.Outside.{Told, Place}
use Rattle.sam_io.specs.declared.outside.Files.{Ghosts}
use Rattle.sam_io.specs.declared.outside.Sink.{Ghosts as SinkGhosts}

-- what is told, the place at the end, and both counts before and after
pub record FilesSpan : Type 0 where
  pub told : Option Told
  pub place : Place
  pub faults_before : ℕ
  pub faults_now : ℕ
  pub misses_before : ℕ
  pub misses_now : ℕ

abbrev pub files_span : {F : Type 0} → Ghosts F → F → F → FilesSpan
files_span files old new = record {
  told = files.told old;
  place = files.place new;
  faults_before = files.faults old;
  faults_now = files.faults new;
  misses_before = files.misses old;
  misses_now = files.misses new;
}

-- what is told stays, and no count falls
pub record KeepsFiles {F : Type 0} (files : Ghosts F) (old new : F) : Type 0 where
  pub told : files.told new ≡ files.told old
  pub faults : files.faults old ≤ files.faults new
  pub misses : files.misses old ≤ files.misses new

-- what was written before and after, and the count
pub record SinkSpan : Type 0 where
  pub before : Option (List ℕ)
  pub now : Option (List ℕ)
  pub faults_before : ℕ
  pub faults_now : ℕ

abbrev pub sink_span : {O : Type 0} → SinkGhosts O → O → O → SinkSpan
sink_span sink old new = record {
  before = sink.written old;
  now = sink.written new;
  faults_before = sink.faults old;
  faults_now = sink.faults new;
}
