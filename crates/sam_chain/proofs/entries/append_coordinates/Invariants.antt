use Rattle.std.proofs.Common.{◌≡◌, ◌-◌, ◌++◌, length}
use Rattle.std.specs.List.{range_with_len}
use mathlib.Core.List.{map}
use Rattle.sam_model.specs.Lists.{coordinate}
use Rattle.sam_model.specs.ResultText.{by_modes}
use Rattle.sam_chain.proofs.entries.append_coordinates.Given as goal

abbrev pub invariant-loop-mode : goal.invariant-loop-mode
invariant-loop-mode l =
    l.coords ++ map (coordinate l.order l.path) (range_with_len l.mode (length l.order - l.mode)) ≡ l.initial.coords ++ by_modes l.order l.path
