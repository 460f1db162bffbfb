use Rattle.std.proofs.Common.{◌≡◌, map}
use Rattle.std.specs.List.{flat_map}
use Rattle.sam_model.specs.Lists.{below}
use Rattle.gen_data.specs.Workload.{row_entries}
use Rattle.gen_data.proofs.matrices.entries.Given as goal

abbrev pub invariant-loop-row : goal.invariant-loop-row
invariant-loop-row l = record {
  coords : l.coords.items ≡ flat_map (λ entry. entry.0) (flat_map (row_entries l.matrix l.n) (below l.row));
  values : l.values.items ≡ map (λ entry. entry.1) (flat_map (row_entries l.matrix l.n) (below l.row));
}
