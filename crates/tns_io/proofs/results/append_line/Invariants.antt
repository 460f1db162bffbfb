use Rattle.std.proofs.Common.{◌≡◌, ◌-◌, ◌++◌, length}
use Rattle.std.specs.List.{range_with_len}
use mathlib.Core.List.{map}
use Rattle.sam_model.specs.Lists.{coordinate}
use Rattle.sam_model.specs.ResultText.{entry_text, by_modes}
use Rattle.tns_io.proofs.results.append_line.Given as goal

abbrev pub invariant-loop-mode : goal.invariant-loop-mode
invariant-loop-mode l =
    l.text ++ entry_text (map (coordinate l.order l.path) (range_with_len l.mode (length l.order - l.mode))) l.value
    ≡ l.initial.text ++ entry_text (by_modes l.order l.path) l.value
