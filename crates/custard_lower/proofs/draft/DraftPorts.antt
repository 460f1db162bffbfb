-- The channels at the ports of the graph of a draft lead to these ports and from them.
use Rattle.std.specs.Prelude.{◌≡◌, ◌<◌, ℕ, ◌+◌, true, false, cond, List, length, get_or, refl}
use Rattle.std.specs.List.{range_with_len}
use mathlib.Core.List.{map}
use Rattle.std.proofs.Common.{inl, inr, arith, sym, ◌∙◌, ap, subst}
use Rattle.std.proofs.lemmas.Bool.{cases_Bool, eqb-true}
use Rattle.std.proofs.lemmas.List.{length-map, get_or-map}
use Rattle.std.proofs.lemmas.List.FromFn.{length-range_with_len, get_or-range_with_len, length-map-range_with_len}
use Rattle.graph.specs.declared.graphs.Block.{Block}
use Rattle.graph.specs.Wiring.{block, channel, into, out_of}
use Rattle.custard_lower.specs.declared.drafts.Made.{Made}
use Rattle.custard_lower.specs.declared.fans.Read.{Read}
use Rattle.custard_lower.specs.Drafts.{outputs_of}
use Rattle.custard_lower.specs.Fans.{no_read}
use Rattle.custard_lower.specs.DraftGraph.{made_at, first_output, read_at, reads_at, readers, reader, reader_place, has_one, ending, copies, first_copy, taker, channel_to, leads, graph_of}
use Rattle.custard_lower.proofs.draft.Readers.{earlier, read-at-port, reader-there, port-place}
use Rattle.custard_lower.proofs.draft.GraphPlaces.{output-found, block-of-draft, channel-of-output, channel-of-copy, copy-within, channels-number}

module _ (made : List Made) where
  -- ---- by how many readers

  -- where an output has one reader, it takes the output, and there are no copies
  pub one-reader : (w : ℕ) → has_one made w ≡ true → length (readers made w) ≡ 1
  one-reader w e = eqb-true _ _ e

  -- so its reader takes it
  pub taker-one : (w : ℕ) → has_one made w ≡ true → taker made w ≡ reader made w 0
  taker-one w e = rw e refl

  -- where not, its drain or cast takes it, and there is a copy for each reader
  pub taker-ended : (w : ℕ) → has_one made w ≡ false → taker made w ≡ record { output = w; block = ending made w; port = 0 }
  taker-ended w e = rw e refl

  -- and it has no copies
  pub copies-one : (w : ℕ) → has_one made w ≡ true → copies made w ≡ 0
  copies-one w e = rw e refl

  -- so it has as many copies as readers
  pub copies-ended : (w : ℕ) → has_one made w ≡ false → copies made w ≡ length (readers made w)
  copies-ended w e = rw e refl

  -- ---- the channel of an output

  -- it leads from the output to what takes it
  pub channel-of-number : (w : ℕ) (l : w < outputs_of made) → let o = output-found made w l in
      channel (graph_of made) w ≡ leads made o.block o.port (taker made w) w
  channel-of-number w l =
      let o = output-found made w l in
      ap (channel (graph_of made)) o.stands
      ∙ channel-of-output made o.block o.port o.block_in o.port_in
      ∙ ap (λ (v : ℕ). leads made o.block o.port (taker made v) v) (sym o.stands)

  -- an output is a channel
  pub output-is-channel : (w : ℕ) → w < outputs_of made → w < length (graph_of made).channels
  output-is-channel w l = omega (arith, l, channels-number made)

  -- ---- the ports of a block of the draft

  ins_of_draft : (b : ℕ) → b < length made → (block (graph_of made) b).ins ≡ map (channel_to made) (reads_at made b)
  ins_of_draft b l = ap (λ (x : Block). x.ins) (block-of-draft made b l)

  outs_of_draft : (b : ℕ) → b < length made
      → (block (graph_of made) b).outs ≡ range_with_len (first_output made b) (length (made_at made b).labels)
  outs_of_draft b l = ap (λ (x : Block). x.outs) (block-of-draft made b l)

  -- it has as many inputs as it reads outputs
  pub ins-number : (b : ℕ) → b < length made → length (block (graph_of made) b).ins ≡ length (made_at made b).ins
  ins-number b l =
      ap (λ (cs : List ℕ). length cs) (ins_of_draft b l)
      ∙ length-map (reads_at made b) (channel_to made)
      ∙ length-map-range_with_len (read_at made b) 0 (length (made_at made b).ins)

  -- at an input port is the channel of its read
  pub in-port : (b p : ℕ) → b < length made → p < length (made_at made b).ins
      → into (graph_of made) b p ≡ channel_to made (read_at made b p)
  in-port b p l m =
      let number : length (reads_at made b) ≡ length (made_at made b).ins =
      length-map-range_with_len (read_at made b) 0 (length (made_at made b).ins) in
      ap (λ (cs : List ℕ). get_or cs p 0) (ins_of_draft b l)
      ∙ get_or-map (channel_to made) (reads_at made b) p no_read 0 (omega (arith, m, number))
      ∙ ap (channel_to made) (read-at-port made b p m)

  -- it has its outputs
  pub outs-number : (b : ℕ) → b < length made → length (block (graph_of made) b).outs ≡ length (made_at made b).labels
  outs-number b l =
      ap (λ (cs : List ℕ). length cs) (outs_of_draft b l)
      ∙ length-range_with_len (first_output made b) (length (made_at made b).labels)

  -- which are its channels
  pub out-port : (b p : ℕ) → b < length made → p < length (made_at made b).labels
      → out_of (graph_of made) b p ≡ first_output made b + p
  out-port b p l m =
      ap (λ (cs : List ℕ). get_or cs p 0) (outs_of_draft b l)
      ∙ get_or-range_with_len (first_output made b) (length (made_at made b).labels) p 0 m

  -- ---- the channel of a read

  channel_from : ℕ → ℕ → ℕ
  channel_from place w = cond (has_one made w) w (first_copy made w + place)

  -- the only read of an output has its channel
  pub channel-of-one : (b p w : ℕ) → get_or (made_at made b).ins p 0 ≡ w → has_one made w ≡ true
      → channel_to made (read_at made b p) ≡ w
  unfolding channel_from
  channel-of-one b p w e one = ap (channel_from (reader_place made (read_at made b p))) e ∙ rw one refl

  -- another read has a copy, after those of the reads before it
  pub channel-of-many : (b p w : ℕ) → b < length made → p < length (made_at made b).ins → get_or (made_at made b).ins p 0 ≡ w
      → has_one made w ≡ false → channel_to made (read_at made b p) ≡ first_copy made w + earlier made w b p
  unfolding channel_from
  channel-of-many b p w l m e many =
      let place : reader_place made (read_at made b p) ≡ earlier made w b p = port-place made w b p l m e in
      ap (channel_from (reader_place made (read_at made b p))) e ∙ rw many refl
      ∙ ap (λ (k : ℕ). first_copy made w + k) place

  -- a channel leads to a port, and output w passes over it
  pub record LeadsTo (c b p w : ℕ) : Type 0 where
    pub channel_in : c < length (graph_of made).channels
    pub from_block : ℕ
    pub from_port : ℕ
    pub same : channel (graph_of made) c ≡ leads made from_block from_port (read_at made b p) w

  -- the channel of a read leads to its port
  pub leads-to-port : (b p w : ℕ) → b < length made → p < length (made_at made b).ins → get_or (made_at made b).ins p 0 ≡ w
      → w < outputs_of made → LeadsTo (channel_to made (read_at made b p)) b p w
  leads-to-port b p w l m e h =
      let there = reader-there made w b p l m e in
      let i : ℕ = earlier made w b p in
      elim (cases_Bool (has_one made w)) [
        | inl one ↦
            let first : i ≡ 0 = omega (arith, there.0, one-reader w one) in
            let o = output-found made w h in
            let is = channel-of-one b p w e one in
            record {
              channel_in = subst (λ (c : ℕ). c < length (graph_of made).channels) (sym is) (output-is-channel w h);
              from_block = o.block;
              from_port = o.port;
              same =
                  ap (channel (graph_of made)) is
                  ∙ channel-of-number w h
                  ∙ ap (λ (r : Read). leads made o.block o.port r w)
                  (taker-one w one ∙ ap (λ (k : ℕ). reader made w k) (sym first) ∙ there.1);
            }
        | inr many ↦
            let in_range : i < copies made w = omega (arith, there.0, copies-ended w many) in
            let is = channel-of-many b p w l m e many in
            record {
              channel_in = subst (λ (c : ℕ). c < length (graph_of made).channels) (sym is) (copy-within made w i h in_range);
              from_block = ending made w;
              from_port = i;
              same =
                  ap (channel (graph_of made)) is
                  ∙ channel-of-copy made w i h in_range
                  ∙ ap (λ (r : Read). leads made (ending made w) i r w) there.1;
            }
      ]
