use Rattle.std.proofs.Common.{◌≡◌, map, take}
use Rattle.serde_json.specs.View.{view}
use Rattle.graph_json.specs.Spelled.{channel_data}
use Rattle.graph_json.proofs.texts.channel_list.Given as goal

abbrev pub invariant-loop-channel : goal.invariant-loop-channel
invariant-loop-channel l = map view l.list.items ≡ map channel_data (take l.channel-index l.channels)
