use Rattle.std.proofs.Common.{◌≡◌}
use Rattle.std.specs.List.{range_with_len}
use mathlib.Core.List.{map}
use Rattle.graph.specs.Writers.{writes_level, first_block}
use Rattle.graph_check.proofs.writers.Writers.new.Given as goal

abbrev pub invariant-loop-level : goal.invariant-loop-level
invariant-loop-level l = l.firsts ≡ map (λ d. first_block (writes_level d) l.graph) (range_with_len 1 l.level)
