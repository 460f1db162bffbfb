use Rattle.std.proofs.Common.{◌≡◌, map, take, Some}
use Rattle.serde_json.specs.View.{view}
use Rattle.graph_reading.specs.Values.{all_read, number_in}
use Rattle.graph_reading.proofs.values.numbers.Given as goal

abbrev pub invariant-loop-value : goal.invariant-loop-value
invariant-loop-value l = all_read (map (λ value. number_in (view value)) (take l.value-index l.list)) ≡ Some l.numbers.items
