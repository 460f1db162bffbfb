use Rattle.std.proofs.Common.{◌≡◌, map, take, Some}
use Rattle.serde_json.specs.View.{view}
use Rattle.graph_reading.specs.Values.{all_read}
use Rattle.graph_reading.specs.Graphs.{channel_in}
use Rattle.graph_reading.proofs.channels.channel_list.Given as goal

abbrev pub invariant-loop-value : goal.invariant-loop-value
invariant-loop-value l = all_read (map (λ value. channel_in (view value)) (take l.value-index l.list)) ≡ Some l.channels.items
