-- The channels of the graph of a draft, one block and one output after another.
use Rattle.std.specs.Prelude.{◌≡◌, ◌<◌, ◌≤◌, ℕ, ◌+◌, List, ◌++◌, length, get_or, eqb}
use Rattle.std.specs.List.{range_with_len}
use mathlib.Core.List.{map}
use Rattle.std.proofs.Common.{arith, sym, ◌∙◌, ap}
use Rattle.std.proofs.lemmas.List.{get_or_append_left}
use Rattle.std.proofs.lemmas.List.Sums.{length-filter, count_by-le-length}
use Rattle.graph.specs.declared.graphs.Channel.{Channel}
use Rattle.graph.specs.Wiring.{no_channel}
use Rattle.custard_lower.specs.declared.drafts.Made.{Made}
use Rattle.custard_lower.specs.declared.fans.Read.{Read}
use Rattle.custard_lower.specs.declared.fans.Fan.{Fan}
use Rattle.custard_lower.specs.Drafts.{outputs_of, label_at}
use Rattle.label_rules.specs.Labels.{no_label}
use Rattle.custard_lower.specs.Fans.{fan_taker, channel_from}
use Rattle.custard_lower.specs.DraftGraph.{made_at, first_output, reads_of, readers, taker, output_channel, output_channels}
use Rattle.custard_lower.specs.DraftFans.{fans_of, port_channel}
use Rattle.custard_lower.proofs.draft.Pushes.{same-items}
use Rattle.custard_lower.proofs.draft.ItemReads.{fan-of-output}
use Rattle.custard_lower.proofs.draft.GraphPlaces.{first-output-within, first-output-next, output-within, output-label, first_channels, last_channels, first-channels-number}
use Rattle.custard_lower.proofs.draft.DraftPorts.{channel-of-number}

module _ (made : List Made) where
  -- an output has no more readers than there are reads
  pub readers-most : (w : ℕ) → length (readers made w) ≤ length (reads_of made)
  readers-most w =
      omega (
        arith,
        length-filter (λ (r : Read). eqb r.output w) (reads_of made),
        count_by-le-length (λ (r : Read). eqb r.output w) (reads_of made),
      )

  -- a block has no more outputs than the draft
  pub labels-most : (b : ℕ) → b < length made → first_output made b + length (made_at made b).labels ≤ outputs_of made
  labels-most b l =
      omega (arith, first-output-next made b l, first-output-within made (b + 1) (omega (arith, l)))

  -- the channels that are pushed for a block
  abbrev pub port_channels : ℕ → List Channel
  port_channels b =
      let labels = (made_at made b).labels in
      map (port_channel (fans_of made) (first_output made b) b labels) (range_with_len 0 (length labels))

  -- are those of its outputs
  pub outputs-piece : (b : ℕ) → b < length made → port_channels b ≡ output_channels made b
  outputs-piece b l =
      let labels = (made_at made b).labels in
      same-items (port_channel (fans_of made) (first_output made b) b labels) (output_channel made b) (length labels)
      (λ p m.
      let w = first_output made b + p in
      let fan = fan-of-output made w (output-within made b p l m) in
      ap (λ (f : Fan). channel_from b p (fan_taker f w) (get_or labels p no_label)) fan
      ∙ ap (channel_from b p (taker made w)) (sym (output-label made b p l m)))

  -- the label of an output, where its channel is the draft's
  pub label-of-channel : (channels rest : List Channel) (w : ℕ) → channels ≡ first_channels made ++ rest → w < outputs_of made
      → (get_or channels w no_channel).label ≡ label_at made w
  label-of-channel channels rest w e l =
      let there : w < length (first_channels made) = omega (arith, l, first-channels-number made) in
      ap (λ (cs : List Channel). (get_or cs w no_channel).label) e
      ∙ ap (λ (c : Channel). c.label)
      (get_or_append_left (first_channels made) rest no_channel w there
      ∙ sym (get_or_append_left (first_channels made) (last_channels made) no_channel w there)
      ∙ channel-of-number made w l)
