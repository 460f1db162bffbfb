use Rattle.std.proofs.Common.{◌≡◌, map, take}
use Rattle.serde_json.specs.View.{view}
use Rattle.graph_json.specs.Spelled.{block_data}
use Rattle.graph_json.proofs.texts.block_list.Given as goal

abbrev pub invariant-loop-block : goal.invariant-loop-block
invariant-loop-block l = map view l.list.items ≡ map (block_data l.p) (take l.block-index l.blocks)
