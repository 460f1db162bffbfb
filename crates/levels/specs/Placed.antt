-- Entries in storage order, and where their prefixes stand among the stored prefixes of a length.
use Rattle.std.specs.Prelude.{◌≡◌, ℕ, ◌<◌, true, false, List, [], length, take, slice_index, slice_index_or}
use Rattle.std.specs.List.{zip}
use mathlib.Core.List.{map}
use Rattle.sam_model.specs.Lists.{smaller, within}
use Rattle.sam_model.specs.Tensors.{Stored, stored_prefixes}
use Rattle.sam_base.specs.Each.{Each}
use Rattle.levels.specs.Sorted.{Sorted}

-- the list at a place
abbrev pub list_at : List (List ℕ) → ℕ → List ℕ
list_at lists place = slice_index_or lists place []

-- the entries ascend, and each has a coordinate below the size of each level
pub record InOrder (a : Stored) : Type 0 where
  pub formats : length a.formats ≡ length a.sizes
  pub long : Each (λ entry. length entry.0 ≡ length a.sizes) a.entries
  pub inside : Each (λ entry. within a.sizes entry.0 ≡ true) a.entries
  pub sorted : Sorted (λ x y. smaller y.0 x.0 ≡ false) a.entries

-- of length k this many prefixes are stored, and these are the ranks of the entries' prefixes
pub record Placed (a : Stored) (k count : ℕ) (ranks : List ℕ) : Type 0 where
  pub counted : count ≡ length (stored_prefixes a k)
  pub ranked : Each (λ r. r < count) ranks
  pub placed : map (list_at (stored_prefixes a k)) ranks ≡ map (λ entry. take k entry.0) a.entries

-- the entries' coordinates at place k
abbrev pub column : ℕ → List (List ℕ × ℕ) → List ℕ
column k entries = map (λ entry. slice_index entry.0 k) entries

-- the pairs of parent and coordinate that the entries have at place k
abbrev pub pairs_at : List ℕ → ℕ → List (List ℕ × ℕ) → List (ℕ × ℕ)
pairs_at ranks k entries = zip ranks (column k entries)
