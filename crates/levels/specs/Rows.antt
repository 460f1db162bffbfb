-- Rows: the entries of a tensor in storage order.
use Rattle.std.specs.Prelude.{ℕ, ◌+◌, ◌*◌, ◌%◌, ◌^◌, cond, List, length, take, slice_index, eqb}
use Rattle.std.specs.List.{zip}
use mathlib.Core.List.{map}
use Rattle.sam_model.specs.declared.tensors.Tensor.{Tensor}
use Rattle.sam_model.specs.Lists.{items_at, total}
use Rattle.sam_model.specs.Tensors.{Stored}
use Rattle.levels.specs.declared.rows.Row.{Row}

-- the two outermost coordinates as one number
abbrev pub outer : List ℕ → ℕ
outer coordinates = slice_index coordinates 0 * 2 ^ 32 + slice_index coordinates 1

-- a row as an entry of a tensor with n levels
abbrev pub row_entry : ℕ → Row → List ℕ × ℕ
row_entry n row = (take n row.coordinates, row.value)

-- the tensor whose entries are these rows
abbrev pub of_rows : Tensor → List Row → Stored
of_rows t rows = record {
  formats = t.formats;
  sizes = items_at t.dims t.order;
  entries = map (row_entry (length t.order)) rows;
}

-- the pairs of parent and coordinate that rows with these parents have at a place
abbrev pub row_pairs : List ℕ → ℕ → List Row → List (ℕ × ℕ)
row_pairs parents place rows = zip parents (map (λ row. slice_index row.coordinates place) rows)

-- the sum of the values at a rank, modulo 2^64
abbrev pub sum_at : List (ℕ × ℕ) → ℕ → ℕ
sum_at ranked r = total (λ x. cond (eqb x.0 r) x.1 0) ranked % 2 ^ 64

-- the values of rows with their ranks
abbrev pub ranked_values : List ℕ → List Row → List (ℕ × ℕ)
ranked_values ranks rows = zip ranks (map (λ row. row.value) rows)
