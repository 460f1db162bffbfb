use Rattle.std.proofs.Common.{take}
use mathlib.Core.List.{map}
use Rattle.std.specs.List.Sorted.{IsPermutation}
use Rattle.sam_base.specs.Each.{Each}
use Rattle.sam_model.specs.Tensors.{stored_as}
use Rattle.levels.specs.Keys.{IsKey, key_entry}
use Rattle.levels.proofs.keys.sorted_keys.Given as goal

abbrev pub invariant-loop-n : goal.invariant-loop-n
invariant-loop-n l = record {
  same : IsPermutation (take l.n (stored_as l.t l.entries).entries) (map (key_entry l.t) l.keys.items);
  keys : Each (IsKey l.t) l.keys.items;
}
