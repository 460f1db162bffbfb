-- The first writers that are kept of a graph.
use Rattle.std.specs.Prelude.{◌≡◌, length}
use Rattle.std.specs.List.{range_with_len}
use mathlib.Core.List.{map}
use Rattle.graph.specs.Writers.{writes_level, writes_values, first_block}
use Rattle.graph_check.specs.declared.writers.Writers.{Writers}

-- they are those of its levels and of its values
pub record AreFirst (w : Writers) : Type 0 where
  pub levels : w.levels ≡ map (λ d. first_block (writes_level d) w.graph.now) (range_with_len 1 (length w.levels))
  pub values : w.values ≡ first_block writes_values w.graph.now
