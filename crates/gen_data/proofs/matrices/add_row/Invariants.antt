use Rattle.std.proofs.Common.{◌≡◌, ◌++◌, map}
use Rattle.std.specs.List.{flat_map}
use Rattle.sam_model.specs.Lists.{below}
use Rattle.gen_data.specs.Workload.{entry_of}
use Rattle.gen_data.proofs.matrices.add_row.Given as goal

abbrev pub invariant-loop-s : goal.invariant-loop-s
invariant-loop-s l = record {
  coords : l.coords.items ≡ l.fn.coords.items ++ flat_map (λ entry. entry.0) (map (entry_of l.matrix l.n l.row) (below l.s));
  values : l.values.items ≡ l.fn.values.items ++ map (λ entry. entry.1) (map (entry_of l.matrix l.n l.row) (below l.s));
}
