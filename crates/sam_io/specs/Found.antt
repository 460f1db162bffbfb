-- The place of a begun file by its number, and what a search by name finds.
use Rattle.std.specs.Prelude.{◌≡◌, ℕ, ◌<◌, ◌≤◌, length, List, Option, Some, None, slice_get}
use Rattle.sam_io.specs.Outside.{Told, Place, bytes_of}
use Rattle.sam_io.specs.declared.memory.Reading.{Reading}

abbrev pub named_place : Option (List ℕ × List ℕ) → ℕ → Place
named_place None given = None
named_place (Some file) given = Some (file.0, given)

-- the place by the number of the file
abbrev pub place_by : Told → Option Reading → Place
place_by files None = None
place_by files (Some reading) = named_place (slice_get files reading.file) reading.given

-- the file is the first of its name, and no more was given than it has
pub record IsFirst (files : Told) (k given : ℕ) : Type 0 where
  pub inside : k < length files
  pub first : (file : List ℕ × List ℕ) → slice_get files k ≡ Some file → bytes_of files file.0 ≡ Some file.1
  pub within : (file : List ℕ × List ℕ) → slice_get files k ≡ Some file → given ≤ length file.1

-- what is begun is the first of its name
abbrev pub IsPlaced : Told → Option Reading → Type 0
IsPlaced files None = Unit {0}
IsPlaced files (Some reading) = IsFirst files reading.file reading.given

-- what a search by name found
abbrev pub Finds : Told → List ℕ → Option ℕ → Type 0
Finds files name None = bytes_of files name ≡ None
Finds files name (Some k) = IsFirst files k 0 × (named_place (slice_get files k) 0 ≡ Some (name, 0))
