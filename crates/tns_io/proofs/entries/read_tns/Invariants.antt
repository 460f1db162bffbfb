use Rattle.std.proofs.Common.{◌≡◌, ◌≤◌, ◌+◌, ◌-◌, ◌*◌, length, drop}
use Rattle.sam_model.specs.Tensors.{entry_list}
use Rattle.sam_text.specs.Lines.{lines}
use Rattle.tns_io.specs.Entries.{entry_lines, entries_of, tns_entries}
use Rattle.tns_io.proofs.EntryLemmas.{entries_after}
use Rattle.tns_io.proofs.entries.read_tns.Given as goal

abbrev pub invariant-loop-from : goal.invariant-loop-from
invariant-loop-from l = record {
  in_text : l.from ≤ length l.text;
  numbered : l.number ≤ l.from + 1;
  whole : length l.coords.items ≡ length l.dims * length l.values.items;
  same : entries_after (entry_list (length l.dims) l.coords.items l.values.items) (entries_of l.dims (length l.values.items) (entry_lines l.number (lines (drop l.from l.text)))) ≡ tns_entries l.dims l.text;
}

abbrev pub decreases-loop-from : goal.decreases-loop-from
decreases-loop-from l = length l.text - l.from
