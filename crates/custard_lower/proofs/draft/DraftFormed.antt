-- The graph of a draft is well formed, where its blocks have the ports of their kinds and read outputs that are made before.
use Rattle.std.specs.Prelude.{◌≡◌, ◌<◌, ◌≤◌, ℕ, zero, suc, ◌+◌, ◌*◌, false, cond, List, [], length, get_or, ltb, refl}
use Rattle.std.proofs.Common.{inl, inr, arith, sym, ◌∙◌, ap, subst}
use Rattle.std.proofs.lemmas.Bool.{cases_Bool, cases_lt, lt-ltb, le-ltb}
use Rattle.block_core.specs.Kind.{ins_of, outs_of}
use Rattle.graph.specs.declared.graphs.Block.{Block}
use Rattle.graph.specs.declared.graphs.Channel.{Channel}
use Rattle.graph.specs.Meaning.{meaning}
use Rattle.graph.specs.Wiring.{block, channel, into, NamesInput, NamesOutput, IsReceived, IsSent, Rises, WellFormed}
use Rattle.custard_lower.specs.declared.drafts.Made.{Made}
use Rattle.custard_lower.specs.declared.fans.Read.{Read}
use Rattle.custard_lower.specs.Drafts.{outputs_of}
use Rattle.custard_lower.specs.Fans.{ending_kind}
use Rattle.custard_lower.specs.DraftGraph.{made_at, first_output, read_at, readers, has_one, ending, copies, first_copy, leads, graph_of}
use Rattle.custard_lower.proofs.draft.Pieces.{before-rises}
use Rattle.custard_lower.proofs.draft.Readers.{reader-found}
use Rattle.custard_lower.proofs.draft.GraphPlaces.{first-output-within, labels_at, outputs-before, output-found, block-of-draft, block-of-ending, channel-of-copy, all-blocks, all-channels}
use Rattle.custard_lower.proofs.draft.DraftPorts.{one-reader, taker-one, copies-ended, channel-of-number, ins-number, outs-number}
use Rattle.custard_lower.proofs.draft.DraftJoined.{draft-in-named, draft-out-named, ending-in, ending-ins, ending-outs, channel-of-ended, ending-in-named, ending-out-named, output-received, ended-copies, copy-received, output-sent, copy-sent}

module _ (made : List Made) where
  -- a port reads an output that is made before its block
  abbrev pub PortsEarlier : Type 0
  PortsEarlier =
      (b p : ℕ) → b < length made → p < length (made_at made b).ins → get_or (made_at made b).ins p 0 < first_output made b

  -- a block has the ports of its kind
  pub record HasPorts (b : ℕ) : Type 0 where
    pub ins_number : length (made_at made b).ins ≡ ins_of (meaning [] (made_at made b).kind)
    pub outs_number : length (made_at made b).labels ≡ outs_of (meaning [] (made_at made b).kind)

  -- ---- ranks

  -- the drain or cast of an output ranks next after its block
  abbrev pub draft_rank : ℕ → ℕ
  draft_rank x = cond (ltb x (length made)) (2 * x) (2 * (channel (graph_of made) (into (graph_of made) x 0)).from_block + 1)

  first_outputs_rise : (a b : ℕ) → a ≤ b → b ≤ length made → first_output made a ≤ first_output made b
  first_outputs_rise a b l m =
      omega (
        arith,
        before-rises (labels_at made) a b l,
        outputs-before made a (omega (arith, l, m)),
        outputs-before made b m,
      )

  rank_of_draft : (b : ℕ) → b < length made → draft_rank b ≡ 2 * b
  rank_of_draft b l = rw (lt-ltb b (length made) l) refl

  rank_of_ending : (w : ℕ) (l : w < outputs_of made) → has_one made w ≡ false
      → draft_rank (ending made w) ≡ 2 * (output-found made w l).block + 1
  rank_of_ending w l e =
      let past : length made ≤ ending made w = omega arith in
      let from : (channel (graph_of made) (into (graph_of made) (ending made w) 0)).from_block ≡ (output-found made w l).block =
      ap (λ (c : ℕ). (channel (graph_of made) c).from_block) (ending-in made w l e)
      ∙ ap (λ (x : Channel). x.from_block) (channel-of-number made w l) in
      rw (le-ltb (ending made w) (length made) past) (ap (λ (b : ℕ). 2 * b + 1) from)

  module _ (earlier : PortsEarlier) where
    -- a reader of an output comes after the output's block
    reads_later : (w i : ℕ) (l : w < outputs_of made) (m : i < length (readers made w))
        → (output-found made w l).block < (reader-found made w i m).block
    reads_later w i l m =
        let o = output-found made w l in
        let f = reader-found made w i m in
        let less : w < first_output made f.block =
        subst (λ (v : ℕ). v < first_output made f.block) f.reads (earlier f.block f.port f.block_in f.port_in) in
        elim (cases_lt o.block f.block) [
          | inl after ↦ after
          | inr past ↦ absurd (omega (arith, less, o.stands, first_outputs_rise f.block o.block past (omega (arith, o.block_in))))
        ]

    abbrev RisesOver : Channel → Type 0
    RisesOver x = draft_rank x.from_block < draft_rank x.to_block

    output_rises : (c : ℕ) → c < outputs_of made → RisesOver (channel (graph_of made) c)
    output_rises c l =
        let o = output-found made c l in
        elim (cases_Bool (has_one made c)) [
          | inl one ↦
              let only : 0 < length (readers made c) = omega (arith, one-reader made c one) in
              let f = reader-found made c 0 only in
              let later = reads_later c 0 l only in
              let up : RisesOver (leads made o.block o.port (read_at made f.block f.port) c) =
              omega (arith, rank_of_draft o.block o.block_in, rank_of_draft f.block f.block_in, later) in
              subst RisesOver
              (sym (channel-of-number made c l ∙ ap (λ (r : Read). leads made o.block o.port r c)
              (taker-one made c one ∙ f.same))) up
          | inr e ↦
              let up : RisesOver (leads made o.block o.port (record { output = c; block = ending made c; port = 0 }) c) =
              omega (arith, rank_of_draft o.block o.block_in, rank_of_ending c l e) in
              subst RisesOver (sym (channel-of-ended made c l e)) up
        ]

    copy_rises : (w i : ℕ) → w < outputs_of made → i < copies made w → RisesOver (channel (graph_of made) (first_copy made w + i))
    copy_rises w i l m =
        let many = ended-copies made w i m in
        let there : i < length (readers made w) = omega (arith, m, copies-ended made w many) in
        let f = reader-found made w i there in
        let later = reads_later w i l there in
        let up : RisesOver (leads made (ending made w) i (read_at made f.block f.port) w) =
        omega (arith, rank_of_ending w l many, rank_of_draft f.block f.block_in, later) in
        let is = channel-of-copy made w i l m ∙ ap (λ (r : Read). leads made (ending made w) i r w) f.same in
        subst RisesOver (sym is) up

    rises : Rises (graph_of made) draft_rank
    rises = all-channels made (λ c. RisesOver (channel (graph_of made) c)) output_rises copy_rises

  -- ---- the numbers of ports

  ending_kind_ins : (k : ℕ) → ins_of (meaning [] (ending_kind k)) ≡ 1
  ending_kind_ins zero = refl
  ending_kind_ins (suc k) = refl

  ending_kind_outs : (k : ℕ) → outs_of (meaning [] (ending_kind k)) ≡ k
  ending_kind_outs zero = refl
  ending_kind_outs (suc k) = refl

  abbrev InsFit : ℕ → Type 0
  InsFit x = length (block (graph_of made) x).ins ≡ ins_of (meaning [] (block (graph_of made) x).kind)

  abbrev OutsFit : ℕ → Type 0
  OutsFit x = length (block (graph_of made) x).outs ≡ outs_of (meaning [] (block (graph_of made) x).kind)

  ending_ins_fit : (w : ℕ) → w < outputs_of made → has_one made w ≡ false → InsFit (ending made w)
  ending_ins_fit w l e =
      ending-ins made w l e ∙ sym (ending_kind_ins (length (readers made w)))
      ∙ ap (λ (x : Block). ins_of (meaning [] x.kind)) (sym (block-of-ending made w l e))

  ending_outs_fit : (w : ℕ) → w < outputs_of made → has_one made w ≡ false → OutsFit (ending made w)
  ending_outs_fit w l e =
      ending-outs made w l e ∙ copies-ended made w e ∙ sym (ending_kind_outs (length (readers made w)))
      ∙ ap (λ (x : Block). outs_of (meaning [] x.kind)) (sym (block-of-ending made w l e))

  abbrev InsNamed : ℕ → Type 0
  InsNamed x = (p : ℕ) → p < length (block (graph_of made) x).ins → NamesInput (graph_of made) x p

  abbrev OutsNamed : ℕ → Type 0
  OutsNamed x = (p : ℕ) → p < length (block (graph_of made) x).outs → NamesOutput (graph_of made) x p

  draft_ins_named : PortsEarlier → (b : ℕ) → b < length made → InsNamed b
  draft_ins_named earlier b l p m =
      let port_in : p < length (made_at made b).ins = omega (arith, m, ins-number made b l) in
      draft-in-named made b p l port_in (omega (arith, earlier b p l port_in, first-output-within made b (omega (arith, l))))

  ending_ins_named : (w : ℕ) → w < outputs_of made → has_one made w ≡ false → InsNamed (ending made w)
  ending_ins_named w l e p m =
      let first : 0 ≡ p = omega (arith, m, ending-ins made w l e) in
      subst (NamesInput (graph_of made) (ending made w)) first (ending-in-named made w l e)

  ending_outs_named : (w : ℕ) → w < outputs_of made → has_one made w ≡ false → OutsNamed (ending made w)
  ending_outs_named w l e p m = ending-out-named made w p l e (omega (arith, m, ending-outs made w l e))

  -- so the graph is well formed
  pub formed : PortsEarlier → ((b : ℕ) → b < length made → HasPorts b) → WellFormed (graph_of made)
  formed earlier ports = record {
    ins_number = all-blocks made InsFit
        (λ b l.
        ins-number made b l ∙ (ports b l).ins_number
        ∙ ap (λ (x : Block). ins_of (meaning [] x.kind)) (sym (block-of-draft made b l)))
        ending_ins_fit;
    outs_number = all-blocks made OutsFit
        (λ b l.
        outs-number made b l ∙ (ports b l).outs_number
        ∙ ap (λ (x : Block). outs_of (meaning [] x.kind)) (sym (block-of-draft made b l)))
        ending_outs_fit;
    in_named = λ b p l m. all-blocks made InsNamed (draft_ins_named earlier) ending_ins_named b l p m;
    out_named = λ b p l m. all-blocks made OutsNamed
        (λ b l p m. draft-out-named made b p l (omega (arith, m, outs-number made b l))) ending_outs_named b l p m;
    received = all-channels made (IsReceived (graph_of made)) (output-received made) (copy-received made);
    came = all-channels made (IsSent (graph_of made)) (output-sent made) (copy-sent made);
    forwards = (draft_rank, rises earlier);
  }
