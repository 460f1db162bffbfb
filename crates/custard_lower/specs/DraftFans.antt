-- What the code keeps of the outputs of a draft: the fan of each, and the channel of each read by the reads before it.
use Rattle.std.specs.Prelude.{ℕ, ◌+◌, List, length, get_or, take, eqb}
use Rattle.std.specs.List.{filter, range_with_len}
use mathlib.Core.List.{map}
use Rattle.stream_model.specs.declared.labels.Label.{Label}
use Rattle.graph.specs.declared.graphs.Channel.{Channel}
use Rattle.custard_lower.specs.declared.drafts.Made.{Made}
use Rattle.custard_lower.specs.declared.fans.Read.{Read}
use Rattle.custard_lower.specs.declared.fans.Fan.{Fan}
use Rattle.custard_lower.specs.Drafts.{outputs_of}
use Rattle.label_rules.specs.Labels.{no_label}
use Rattle.custard_lower.specs.Fans.{no_read, no_fan, fan_taker, fan_channel, channel_from}
use Rattle.custard_lower.specs.DraftGraph.{fan_of}

-- the fan of an output, among those of all
abbrev pub fan_at : List Fan → ℕ → Fan
fan_at fans w = get_or fans w no_fan

abbrev pub fans_of : List Made → List Fan
fans_of made = map (fan_of made) (range_with_len 0 (outputs_of made))

-- the channel of the k-th read
abbrev pub read_channel : List Fan → List Read → ℕ → ℕ
read_channel fans reads k =
    let w = (get_or reads k no_read).output in
    fan_channel (fan_at fans w) w (length (filter (λ r. eqb r.output w) (take k reads)))

-- the channel from an output port of a block with these labels, whose first output is this
abbrev pub port_channel : List Fan → ℕ → ℕ → List Label → ℕ → Channel
port_channel fans first b labels p =
    let w = first + p in channel_from b p (fan_taker (fan_at fans w) w) (get_or labels p no_label)
