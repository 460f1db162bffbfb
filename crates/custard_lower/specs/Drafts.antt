-- A draft of a graph: blocks in the order in which they are made. Their outputs are counted together, in the order of the
-- blocks and of their ports, and may have any number of readers.
use Rattle.std.specs.Prelude.{ℕ, List, length, get_or}
use Rattle.std.specs.List.{flat_map}
use Rattle.stream_model.specs.declared.labels.Label.{Label}
use Rattle.label_rules.specs.Labels.{no_label}
use Rattle.custard_lower.specs.declared.drafts.Made.{Made}

-- the labels of all outputs, by their numbers
abbrev pub labels_of : List Made → List Label
labels_of made = flat_map (λ m. m.labels) made

-- how many outputs these blocks have
abbrev pub outputs_of : List Made → ℕ
outputs_of made = length (labels_of made)

-- the label of an output
abbrev pub label_at : List Made → ℕ → Label
label_at made w = get_or (labels_of made) w no_label
