-- Which tensors can be stored, and from which entries.
use Rattle.std.specs.Prelude.{◌≡◌, ℕ, ◌+◌, ◌*◌, ◌^◌, ◌<◌, ◌≤◌, length, slice_index}
use Rattle.sam_model.specs.declared.tensors.Tensor.{Tensor}
use Rattle.sam_model.specs.declared.tensors.Entries.{Entries}

-- at most eight dimensions below 2^31, a format for each level, and an order of modes
pub record IsStorable (t : Tensor) : Type 0 where
  pub few : length t.dims ≤ 8
  pub sizes : (m : ℕ) → m < length t.dims → slice_index t.dims m < 2 ^ 31
  pub formats : length t.formats ≡ length t.dims
  pub levels : length t.order ≡ length t.dims
  pub modes : (k : ℕ) → k < length t.order → slice_index t.order k < length t.dims

-- each entry has a coordinate for each mode, below its dimension
pub record Matches (t : Tensor) (e : Entries) : Type 0 where
  pub arity : e.arity ≡ length t.dims
  pub coordinates : length e.coords ≡ length e.values * e.arity
  pub within : (n m : ℕ) → n < length e.values → m < e.arity → slice_index e.coords (n * e.arity + m) < slice_index t.dims m
