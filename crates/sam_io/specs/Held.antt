-- What contracts see of files and of a sink that are held in memory.
use Rattle.std.specs.Prelude.{ℕ, ◌+◌, ◌-◌, ◌^◌, min, List, Bool, if◌then◌else◌}
use Rattle.sam_io.specs.Outside.{Told, Place}

-- the files, what is begun, and which calls fail; calls are counted from 1
pub record HeldFiles : Type 0 where
  pub files : Told
  pub place : Place
  pub piece : ℕ
  pub fails : List ℕ
  pub calls : ℕ
  pub faults : ℕ
  pub misses : ℕ

-- what was written, how much may be, and which calls fail; calls are counted from 1
pub record HeldBytes : Type 0 where
  pub written : List ℕ
  pub room : ℕ
  pub piece : ℕ
  pub fails : List ℕ
  pub calls : ℕ
  pub faults : ℕ

-- a count after one more; at its type's end it stands still
abbrev pub raised : ℕ → ℕ
raised count = min (count + 1) (2 ^ 64 - 1)

-- a count after one more where that is so
abbrev pub raised_if : Bool → ℕ → ℕ
raised_if rises count = if rises then raised count else count

-- what contracts see of the real files: what is begun, and the counts
pub record CountedFiles : Type 0 where
  pub place : Place
  pub faults : ℕ
  pub misses : ℕ
