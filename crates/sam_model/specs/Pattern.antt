-- Which coordinates a result lists. It lists what a tensor of its formats would store whose entries are those that are found: a
-- dense level below the last compressed one lists every coordinate. A result without dimensions lists what is found.
-- Coordinates are in storage order.
use Rattle.std.specs.Prelude.{ℕ, Bool, not, cond, ◌&&◌, List, length, eqb, nat_lt}
use Rattle.sam_base.specs.declared.TheConstants.{ENTRIES_MOST}
use Rattle.sam_model.specs.declared.tensors.Tensor.{Tensor}
use Rattle.sam_model.specs.Lists.{items_at}
use Rattle.sam_model.specs.Tensors.{Stored, compressed_until, stored_entries}

-- a result as a tensor that has these entries
abbrev pub result_as : Tensor → List (List ℕ × ℕ) → Stored
result_as t entries = record { formats = t.formats; sizes = items_at t.dims t.order; entries = entries }

-- what the result lists where these entries are found: a coordinate that isn't found has the value 0
abbrev pub closed : Tensor → List (List ℕ × ℕ) → List (List ℕ × ℕ)
closed t found = cond (eqb (length t.formats) 0) found (stored_entries (result_as t found))

-- the last level is dense
abbrev pub ends_dense : Tensor → Bool
ends_dense t = not (eqb (compressed_until (length t.formats) t.formats) (length t.formats))

-- a dense last level lists more coordinates than a result may have
abbrev pub is_too_large : Tensor → List (List ℕ × ℕ) → Bool
is_too_large t listed = ends_dense t && nat_lt ENTRIES_MOST (length listed)
