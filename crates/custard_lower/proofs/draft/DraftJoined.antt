-- The ports and channels of the graph of a draft name each other, where each block reads outputs that are made.
use Rattle.std.specs.Prelude.{◌≡◌, ◌<◌, ℕ, ◌+◌, false, List, length, get_or, refl}
use Rattle.std.proofs.Common.{inl, inr, arith, sym, ◌∙◌, ap, subst}
use Rattle.std.proofs.lemmas.Bool.{cases_Bool}
use Rattle.std.proofs.lemmas.List.FromFn.{length-range_with_len, get_or-range_with_len}
use Rattle.graph.specs.declared.graphs.Block.{Block}
use Rattle.graph.specs.declared.graphs.Channel.{Channel}
use Rattle.graph.specs.Wiring.{block, channel, into, out_of, NamesInput, NamesOutput, IsReceived, IsSent}
use Rattle.custard_lower.specs.declared.drafts.Made.{Made}
use Rattle.custard_lower.specs.declared.fans.Read.{Read}
use Rattle.custard_lower.specs.Drafts.{outputs_of}
use Rattle.custard_lower.specs.DraftGraph.{readers, made_at, first_output, read_at, has_one, ending, copies, first_copy, leads, channel_to, graph_of}
use Rattle.custard_lower.proofs.draft.Readers.{reader-found}
use Rattle.custard_lower.proofs.draft.GraphPlaces.{output-found, output-within, draft-blocks-within, ending-within, block-of-ending, channel-of-output, copy-within, channel-of-copy}
use Rattle.custard_lower.proofs.draft.DraftPorts.{one-reader, taker-one, taker-ended, copies-one, copies-ended, channel-of-number, output-is-channel, ins-number, in-port, outs-number, out-port, channel-of-one, channel-of-many, leads-to-port}

module _ (made : List Made) where
  -- a channel that leads to a port, and one that leads from a port
  abbrev Leads : ℕ → ℕ → ℕ → Type 0
  Leads b p c =
      (c < length (graph_of made).channels) × ((channel (graph_of made) c).to_block ≡ b)
      × ((channel (graph_of made) c).to_port ≡ p)

  abbrev Comes : ℕ → ℕ → ℕ → Type 0
  Comes b p c =
      (c < length (graph_of made).channels) × ((channel (graph_of made) c).from_block ≡ b)
      × ((channel (graph_of made) c).from_port ≡ p)

  -- where the channel is known
  leads_as : (c : ℕ) (x : Channel) → c < length (graph_of made).channels → channel (graph_of made) c ≡ x
      → Leads x.to_block x.to_port c
  leads_as c x l e = (l, ap (λ (x : Channel). x.to_block) e, ap (λ (x : Channel). x.to_port) e)

  comes_as : (c : ℕ) (x : Channel) → c < length (graph_of made).channels → channel (graph_of made) c ≡ x
      → Comes x.from_block x.from_port c
  comes_as c x l e = (l, ap (λ (x : Channel). x.from_block) e, ap (λ (x : Channel). x.from_port) e)

  -- ---- ports

  -- the channel at an input port of a block of the draft names it back
  pub draft-in-named : (b p : ℕ) → b < length made → p < length (made_at made b).ins
      → get_or (made_at made b).ins p 0 < outputs_of made → NamesInput (graph_of made) b p
  draft-in-named b p l m h =
      let to = leads-to-port made b p (get_or (made_at made b).ins p 0) l m refl h in
      subst (Leads b p) (sym (in-port made b p l m)) (leads_as _ _ to.channel_in to.same)

  -- and the one at an output port
  pub draft-out-named : (b p : ℕ) → b < length made → p < length (made_at made b).labels → NamesOutput (graph_of made) b p
  draft-out-named b p l m =
      let there = output-is-channel made (first_output made b + p) (output-within made b p l m) in
      subst (Comes b p) (sym (out-port made b p l m)) (comes_as _ _ there (channel-of-output made b p l m))

  -- the drain or cast of an output reads it
  pub ending-in : (w : ℕ) → w < outputs_of made → has_one made w ≡ false → into (graph_of made) (ending made w) 0 ≡ w
  ending-in w l e = ap (λ (x : Block). get_or x.ins 0 0) (block-of-ending made w l e)

  ending_out : (w p : ℕ) → w < outputs_of made → has_one made w ≡ false → p < copies made w
      → out_of (graph_of made) (ending made w) p ≡ first_copy made w + p
  ending_out w p l e m =
      ap (λ (x : Block). get_or x.outs p 0) (block-of-ending made w l e)
      ∙ get_or-range_with_len (first_copy made w) (length (readers made w)) p 0 (omega (arith, m, copies-ended made w e))

  -- it has one input
  pub ending-ins : (w : ℕ) → w < outputs_of made → has_one made w ≡ false
      → length (block (graph_of made) (ending made w)).ins ≡ 1
  ending-ins w l e = ap (λ (x : Block). length x.ins) (block-of-ending made w l e)

  -- and an output for each reader
  pub ending-outs : (w : ℕ) → w < outputs_of made → has_one made w ≡ false
      → length (block (graph_of made) (ending made w)).outs ≡ copies made w
  ending-outs w l e =
      ap (λ (x : Block). length x.outs) (block-of-ending made w l e)
      ∙ length-range_with_len (first_copy made w) (length (readers made w)) ∙ sym (copies-ended made w e)

  -- the channel of its output leads to it
  pub channel-of-ended : (w : ℕ) (l : w < outputs_of made) → has_one made w ≡ false → let o = output-found made w l in
      channel (graph_of made) w ≡ leads made o.block o.port (record { output = w; block = ending made w; port = 0 }) w
  channel-of-ended w l e =
      let o = output-found made w l in
      channel-of-number made w l ∙ ap (λ (r : Read). leads made o.block o.port r w) (taker-ended made w e)

  -- the channels at its ports name them back
  pub ending-in-named : (w : ℕ) → w < outputs_of made → has_one made w ≡ false → NamesInput (graph_of made) (ending made w) 0
  ending-in-named w l e =
      subst (Leads (ending made w) 0) (sym (ending-in w l e)) (leads_as w _ (output-is-channel made w l) (channel-of-ended w l e))

  -- and so does the channel at each port that it writes
  pub ending-out-named : (w p : ℕ) → w < outputs_of made → has_one made w ≡ false → p < copies made w
      → NamesOutput (graph_of made) (ending made w) p
  ending-out-named w p l e m =
      subst (Comes (ending made w) p) (sym (ending_out w p l e m))
      (comes_as _ _ (copy-within made w p l m) (channel-of-copy made w p l m))

  -- ---- channels

  -- a channel that leads to a port is listed there, where it is the port's
  abbrev ReceivedAs : ℕ → Channel → Type 0
  ReceivedAs c x =
      (x.to_block < length (graph_of made).blocks) × (x.to_port < length (block (graph_of made) x.to_block).ins)
      × (into (graph_of made) x.to_block x.to_port ≡ c)

  port_received : (b p c from_block from_port w : ℕ) → b < length made → p < length (made_at made b).ins
      → channel_to made (read_at made b p) ≡ c → channel (graph_of made) c ≡ leads made from_block from_port (read_at made b p) w
      → IsReceived (graph_of made) c
  port_received b p c from_block from_port w l m e is =
      subst (ReceivedAs c) (sym is)
      (omega (arith, l, draft-blocks-within made), omega (arith, m, ins-number made b l), in-port made b p l m ∙ e)

  -- the channel of an output is listed at the input port that it names
  pub output-received : (c : ℕ) → c < outputs_of made → IsReceived (graph_of made) c
  output-received c l =
      let o = output-found made c l in
      elim (cases_Bool (has_one made c)) [
        | inl one ↦
            let f = reader-found made c 0 (omega (arith, one-reader made c one)) in
            port_received f.block f.port c o.block o.port c f.block_in f.port_in
            (channel-of-one made f.block f.port c f.reads one)
            (channel-of-number made c l ∙ ap (λ (r : Read). leads made o.block o.port r c) (taker-one made c one ∙ f.same))
        | inr e ↦
            subst (ReceivedAs c) (sym (channel-of-ended c l e))
            (ending-within made c l e, omega (arith, ending-ins c l e), ending-in c l e)
      ]

  -- an output that is copied has not one reader
  pub ended-copies : (w i : ℕ) → i < copies made w → has_one made w ≡ false
  ended-copies w i m =
      elim (cases_Bool (has_one made w)) [
        | inl one ↦ absurd (omega (arith, m, copies-one made w one))
        | inr e ↦ e
      ]

  -- a channel from a cast is listed at the input port that it names
  pub copy-received : (w i : ℕ) → w < outputs_of made → i < copies made w → IsReceived (graph_of made) (first_copy made w + i)
  copy-received w i l m =
      let many = ended-copies w i m in
      let f = reader-found made w i (omega (arith, m, copies-ended made w many)) in
      port_received f.block f.port (first_copy made w + i) (ending made w) i w f.block_in f.port_in
      (channel-of-many made f.block f.port w f.block_in f.port_in f.reads many
      ∙ ap (λ (k : ℕ). first_copy made w + k) (sym f.stands))
      (channel-of-copy made w i l m ∙ ap (λ (r : Read). leads made (ending made w) i r w) f.same)

  abbrev SentAs : ℕ → Channel → Type 0
  SentAs c x =
      (x.from_block < length (graph_of made).blocks) × (x.from_port < length (block (graph_of made) x.from_block).outs)
      × (out_of (graph_of made) x.from_block x.from_port ≡ c)

  -- the channel of an output is listed at the output port that it names
  pub output-sent : (c : ℕ) → c < outputs_of made → IsSent (graph_of made) c
  output-sent c l =
      let o = output-found made c l in
      subst (SentAs c) (sym (channel-of-number made c l)) (
        omega (arith, o.block_in, draft-blocks-within made),
        omega (arith, o.port_in, outs-number made o.block o.block_in),
        out-port made o.block o.port o.block_in o.port_in ∙ sym o.stands,
      )

  -- and so is a channel from a cast
  pub copy-sent : (w i : ℕ) → w < outputs_of made → i < copies made w → IsSent (graph_of made) (first_copy made w + i)
  copy-sent w i l m =
      let many = ended-copies w i m in
      subst (SentAs (first_copy made w + i)) (sym (channel-of-copy made w i l m))
      (ending-within made w l many, omega (arith, m, ending-outs w l many), ending_out w i l many m)
