use Rattle.std.proofs.Common.{◌≡◌, ◌*◌, length, drop}
use Rattle.sam_model.specs.Lists.{items_at}
use Rattle.tns_io.specs.Closing.{spread, multiplied}
use Rattle.tns_io.specs.Rows.{rows_of}
use Rattle.tns_io.proofs.closing.spreading.spread_paths.Given as goal

abbrev pub invariant-loop-level : goal.invariant-loop-level
invariant-loop-level l = record {
  whole : length l.paths.numbers.items ≡ l.paths.count * l.level;
  rows :
      spread (rows_of l.level l.paths.count l.paths.numbers.items) (drop l.level (items_at l.declared.dims l.declared.order))
      ≡ spread (rows_of l.fn.from l.fn.fronts.count l.fn.fronts.numbers.items) (drop l.fn.from (items_at l.declared.dims l.declared.order));
  count : multiplied l.paths.count (drop l.level (items_at l.declared.dims l.declared.order)) ≡ multiplied l.fn.fronts.count (drop l.fn.from (items_at l.declared.dims l.declared.order));
}
