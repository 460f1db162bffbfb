-- The blocks of the graph of a draft, one after another.
use Rattle.std.specs.Prelude.{◌≡◌, ◌<◌, ℕ, ◌+◌, ◌-◌, ◌^◌, List, length, get_or, take, drop, slice_range}
use Rattle.std.specs.List.{All, range_with_len}
use mathlib.Core.List.{map}
use Rattle.std.proofs.Common.{arith, sym, ◌∙◌, ap, subst}
use Rattle.std.proofs.lemmas.List.{take-map, drop-map, length-map, get_or-map}
use Rattle.std.proofs.lemmas.List.Elements.{All-from_get_or}
use Rattle.std.proofs.lemmas.List.FromFn.{length-map-range_with_len, fill_by_all}
use Rattle.custard_lower.specs.declared.drafts.Made.{Made}
use Rattle.custard_lower.specs.declared.fans.Read.{Read}
use Rattle.custard_lower.specs.declared.fans.Fan.{Fan}
use Rattle.custard_lower.specs.Fans.{no_read, no_fan, fan_channel}
use Rattle.custard_lower.specs.DraftGraph.{made_at, ReadsWithin, DraftIsSmall, reads_at, reads_of, read_at, reader_place, channel_to, fan_of}
use Rattle.custard_lower.specs.DraftFans.{fans_of, read_channel}
use Rattle.custard_lower.proofs.draft.Pieces.{before, piece-taken}
use Rattle.custard_lower.proofs.draft.Readers.{read-found, reads-within, port-place}
use Rattle.custard_lower.proofs.draft.FanSteps.{first-copy-fits}
use Rattle.custard_lower.proofs.draft.PlaceSteps.{reads_before}
use Rattle.custard_lower.proofs.draft.ItemReads.{fans-number, fan-of-output}

module _ (made : List Made) where
  -- the channels at the ports of a block, among those of all reads
  pub ins-piece : (b n m : ℕ) → b < length made → n ≡ before (reads_at made) b → m ≡ n + length (made_at made b).ins
      → slice_range (map (channel_to made) (reads_of made)) n m ≡ map (channel_to made) (reads_at made b)
  ins-piece b n m l first last =
      let reads = length-map-range_with_len (read_at made b) 0 (length (made_at made b).ins) in
      let number : m - n ≡ length (reads_at made b) = omega (arith, last, reads) in
      ap (take (m - n)) (drop-map (channel_to made) n (reads_of made))
      ∙ take-map (channel_to made) (m - n) (drop n (reads_of made))
      ∙ ap (λ (k : ℕ). map (channel_to made) (take k (drop n (reads_of made)))) number
      ∙ ap (λ (k : ℕ). map (channel_to made) (take (length (reads_at made b)) (drop k (reads_of made)))) first
      ∙ ap (map (channel_to made)) (piece-taken (reads_at made) (length made) b l)

  -- the channel of a read
  read_is : ReadsWithin made → (k : ℕ) → k < length (reads_of made)
      → channel_to made (get_or (reads_of made) k no_read) ≡ read_channel (fans_of made) (reads_of made) k
  read_is within k l =
      let r = read-found made k l in
      let w = (get_or (reads_of made) k no_read).output in
      let reads : get_or (made_at made r.block).ins r.port 0 ≡ w = ap (λ (x : Read). x.output) (sym r.same) in
      let place : reader_place made (get_or (reads_of made) k no_read) ≡ reads_before (reads_of made) w k =
      ap (reader_place made) r.same
      ∙ port-place made w r.block r.port r.block_in r.port_in reads
      ∙ ap (reads_before (reads_of made) w) (sym r.stands) in
      ap (fan_channel (fan_of made w) w) place
      ∙ ap (λ (f : Fan). fan_channel f w (reads_before (reads_of made) w k))
      (sym (fan-of-output made w (reads-within made within k no_read l)))

  -- the channels of all reads, as they are found one after another, are theirs
  abbrev pub read_channels : List ℕ
  read_channels = map (read_channel (fans_of made) (reads_of made)) (range_with_len 0 (length (reads_of made)))

  -- so they are the channels to the readers
  pub read-channels : ReadsWithin made → read_channels ≡ map (channel_to made) (reads_of made)
  read-channels within =
      let channels = map (channel_to made) (reads_of made) in
      sym (fill_by_all (read_channel (fans_of made) (reads_of made)) channels (length (reads_of made)) 0
      (length-map (reads_of made) (channel_to made))
      (λ k l. get_or-map (channel_to made) (reads_of made) k no_read 0 l ∙ read_is within k l))

  -- each read is of an output that has a fan
  pub reads-have-fans : ReadsWithin made → All (λ r. r.output < length (fans_of made)) (reads_of made)
  reads-have-fans within =
      subst (λ (n : ℕ). All (λ (r : Read). r.output < n) (reads_of made)) (sym (fans-number made)) (reads-within made within)

  -- the channels of casts are few
  pub first-copies-fit : DraftIsSmall made → All (λ f. f.first_copy < 2 ^ 32) (fans_of made)
  first-copies-fit small =
      All-from_get_or (λ (f : Fan). f.first_copy < 2 ^ 32) (fans_of made) no_fan
      (λ w l.
      let number = fans-number made in
      let fan = fan-of-output made w (omega (arith, l, number)) in
      omega (arith, ap (λ (f : Fan). f.first_copy) fan, first-copy-fits made small w))
