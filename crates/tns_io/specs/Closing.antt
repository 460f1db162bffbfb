-- How a result's dense levels are filled: which paths are listed, and with which values.
use Rattle.std.specs.Prelude.{ℕ, ◌*◌, ◌%◌, ◌^◌, cond, List, [], ◌∷◌, ◌++◌, length, drop, eqb}
use Rattle.std.specs.List.{flat_map}
use mathlib.Core.List.{map}
use Rattle.sam_model.specs.declared.tensors.Tensor.{Tensor}
use Rattle.sam_model.specs.Lists.{below, items_at, same_list}
use Rattle.sam_model.specs.Tensors.{compressed_until}
use Rattle.tns_io.specs.Fronts.{fronts}

-- under a path all coordinates below a size
abbrev pub longer_below : ℕ → List ℕ → List (List ℕ)
longer_below s p = map (λ c. p ++ c ∷ []) (below s)

-- under each path all coordinates below each of these sizes in turn
abbrev pub spread : List (List ℕ) → List ℕ → List (List ℕ)
spread paths [] = paths
spread paths (s ∷ sizes) = spread (flat_map (longer_below s) paths) sizes

-- the value of a path and the entries that are left, where the next entry may be its own: else it is 0
abbrev pub value_among : List ℕ → List (List ℕ × ℕ) → ℕ × List (List ℕ × ℕ)
value_among x [] = (0, [])
value_among x (e ∷ entries) = cond (same_list x e.0) (e.1 % 2 ^ 64, entries) (0, e ∷ entries)

-- each path with its value, where the entries stand among the paths in their order
abbrev pub merged : List (List ℕ) → List (List ℕ × ℕ) → List (List ℕ × ℕ)
merged [] entries = []
merged (x ∷ xs) entries = (x, (value_among x entries).0) ∷ merged xs (value_among x entries).1

-- so many numbers times each of these sizes
abbrev pub multiplied : ℕ → List ℕ → ℕ
multiplied n [] = n
multiplied n (s ∷ sizes) = multiplied (n * s) sizes

-- the fronts below which all coordinates are listed
abbrev pub listed_fronts : ℕ → List (List ℕ × ℕ) → List (List ℕ)
listed_fronts q found = cond (eqb q 0) ([] ∷ []) (fronts q found)

-- the paths that are listed where these are found
abbrev pub full_paths : Tensor → List (List ℕ × ℕ) → List (List ℕ)
full_paths t found =
    let q = compressed_until (length t.formats) t.formats in
    spread (listed_fronts q found) (drop q (items_at t.dims t.order))

abbrev pub filled : Tensor → List (List ℕ × ℕ) → List (List ℕ × ℕ)
filled t found = merged (full_paths t found) found
