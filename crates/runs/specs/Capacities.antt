-- The capacities that are asked for the channels of a graph.
use Rattle.std.specs.Prelude.{◌==◌, ℕ, List, [], ◌∷◌, Option, Some, None, Result, Ok, Err, nat_lt, if◌then◌else◌}
use mathlib.Core.List.{map}
use Rattle.sam_base.specs.declared.faults.Fault.{Fault}
use Rattle.sam_base.specs.declared.faults.Fault.TheVariants.{NoSuchChannel}
use Rattle.sam_model.specs.Lists.{below}

-- the capacity of a channel: that of all, unless a pair gives it its own
abbrev pub capacity_at : Option ℕ → List (ℕ × ℕ) → ℕ → Option ℕ
capacity_at all [] c = all
capacity_at all (pair ∷ pairs) c = capacity_at (if pair.0 == c then Some pair.1 else all) pairs c

-- the first channel of a pair that isn't among so many
abbrev pub unknown_channel : ℕ → List (ℕ × ℕ) → Option ℕ
unknown_channel channels [] = None
unknown_channel channels (pair ∷ pairs) = if nat_lt pair.0 channels then unknown_channel channels pairs else Some pair.0

abbrev pub unless_unknown : Option ℕ → List (Option ℕ) → Result (List (Option ℕ)) Fault
unless_unknown None capacities = Ok capacities
unless_unknown (Some c) capacities = Err (NoSuchChannel c)

-- the capacities of so many channels, where each that a pair names is there
abbrev pub capacities_of : ℕ → Option ℕ → List (ℕ × ℕ) → Result (List (Option ℕ)) Fault
capacities_of channels all pairs =
    unless_unknown (unknown_channel channels pairs) (map (capacity_at all pairs) (below channels))
