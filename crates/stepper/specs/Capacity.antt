-- Which capacities the channels of a graph may have.
use Rattle.std.specs.Prelude.{◌≡◌, ◌≤◌, ℕ, List, length, All, Option, Some, None}

abbrev pub IsCapacity : Option ℕ → Type 0
IsCapacity None = Unit {0}
IsCapacity (Some n) = (1 ≤ n) × (n ≤ 1048576)

-- one for each of so many channels
abbrev pub CapacitiesFor : ℕ → List (Option ℕ) → Type 0
CapacitiesFor channels caps = (length caps ≡ channels) × All IsCapacity caps
