-- Keys: the coordinates of an entry as one number, and its value.
use Rattle.std.specs.Prelude.{◌≡◌, ℕ, ◌+◌, ◌*◌, ◌/◌, ◌%◌, ◌<◌, true, false, List, [], ◌∷◌, length, drop, slice_index}
use Rattle.std.specs.List.Sorted.{IsPermutation}
use Rattle.sam_model.specs.declared.tensors.Tensor.{Tensor}
use Rattle.sam_model.specs.declared.tensors.Entries.{Entries}
use Rattle.sam_model.specs.Lists.{smaller, within, items_at}
use Rattle.sam_model.specs.Tensors.{stored_as}
use Rattle.levels.specs.declared.keys.Key.{Key}
use Rattle.levels.specs.Sorted.{Sorted}

-- coordinates as digits behind those of a number, each to the base of its size
abbrev pub packed : ℕ → List ℕ → List ℕ → ℕ
packed number [] coordinates = number
packed number (size ∷ sizes) [] = number
packed number (size ∷ sizes) (c ∷ coordinates) = packed (number * size + c) sizes coordinates

-- how many numbers the digits to these bases spell
abbrev pub weight : List ℕ → ℕ
weight [] = 1
weight (size ∷ sizes) = size * weight sizes

-- the digits of a number to these bases
abbrev pub digits : List ℕ → ℕ → List ℕ
digits [] number = []
digits (size ∷ sizes) number = number / weight sizes ∷ digits sizes (number % weight sizes)

-- the entry of a key, in storage order
abbrev pub key_entry : Tensor → Key → List ℕ × ℕ
key_entry t key = (digits (items_at t.dims t.order) key.number, key.value)

-- the digits of a key are coordinates below the sizes, and spell its number
pub record IsKey (t : Tensor) (key : Key) : Type 0 where
  pub small : key.number < weight (items_at t.dims t.order)
  pub inside : within (items_at t.dims t.order) (key_entry t key).0 ≡ true
  pub number : key.number ≡ packed 0 (items_at t.dims t.order) (key_entry t key).0

-- what the digits of the levels inside each level spell; never 0
pub record AreWeights (t : Tensor) (weights : List ℕ) : Type 0 where
  pub long : length weights ≡ 8
  pub each : (k : ℕ) → k < length t.order → slice_index weights k ≡ weight (drop (k + 1) (items_at t.dims t.order))
  pub some : (k : ℕ) → k < length t.order → 0 < slice_index weights k

-- the entries of these keys are those of the tensor, and they ascend
pub record AreInOrder (t : Tensor) (e : Entries) (entries : List (List ℕ × ℕ)) : Type 0 where
  pub same : IsPermutation (stored_as t e).entries entries
  pub sorted : Sorted (λ x y. smaller y.0 x.0 ≡ false) entries
