-- Where the rules allow the labels of each block of a draft, they allow those of each block of its graph, which is well formed.
use Rattle.std.specs.Prelude.{◌≡◌, ◌<◌, ℕ, zero, suc, ◌+◌, false, List, [], ◌∷◌, length, get_or, take, refl}
use Rattle.std.specs.List.{range_with_len}
use mathlib.Core.List.{map}
use Rattle.std.proofs.Common.{arith, sym, ◌∙◌, ap, subst, length-append}
use Rattle.std.proofs.lemmas.List.{length-map}
use Rattle.std.proofs.lemmas.List.Elements.{All-get_or}
use Rattle.stream_model.specs.declared.labels.Label.{Label}
use Rattle.block_core.specs.Move.{over}
use Rattle.block_core.specs.Kind.{ins_of, outs_of}
use Rattle.graph.specs.declared.graphs.Kind.{Kind}
use Rattle.graph.specs.declared.graphs.Block.{Block}
use Rattle.graph.specs.declared.graphs.Channel.{Channel}
use Rattle.graph.specs.Meaning.{meaning}
use Rattle.graph.specs.Wiring.{block, WellFormed}
use Rattle.custard_lower.specs.declared.drafts.Made.{Made}
use Rattle.custard_lower.specs.Drafts.{labels_of, outputs_of, label_at}
use Rattle.label_rules.specs.Labels.{no_label}
use Rattle.label_rules.specs.Holding.{label_on, Rules, RulesMet}
use Rattle.custard_lower.specs.Fans.{ending_kind}
use Rattle.custard_lower.specs.DraftGraph.{made_at, first_output, readers, has_one, ending, first_copy, graph_of}
use Rattle.custard_lower.proofs.draft.Emitted.{RuledBlock, Ruled, Sound}
use Rattle.custard_lower.proofs.draft.GraphPlaces.{first-output-within, output-label, block-of-draft, block-of-ending, channel-of-output, channel-of-copy, all-blocks}
use Rattle.custard_lower.proofs.draft.DraftPorts.{channel-of-number, copies-ended, ins-number, in-port, outs-number, out-port, leads-to-port}
use Rattle.custard_lower.proofs.draft.DraftFormed.{PortsEarlier, HasPorts, formed}

same_labels : (f : ℕ → Label) (l : Label) (a p k : ℕ) → ((i : ℕ) → i < k → f (a + i) ≡ l)
    → map f (range_with_len a k) ≡ over (λ _. l) p k
same_labels f l a p zero h = refl
same_labels f l a p (suc k) h =
    let here : a + 0 ≡ a = omega arith in
    let first : f a ≡ l = ap f (sym here) ∙ h 0 (omega arith) in
    let rest = same_labels f l (a + 1) (suc p) k
    (λ i m. let next : (a + 1) + i ≡ a + suc i = omega arith in ap f next ∙ h (suc i) (omega (arith, m))) in
    ap (λ (x : Label). x ∷ map f (range_with_len (a + 1) k)) first ∙ ap (λ (xs : List Label). l ∷ xs) rest

-- labels that agree at each port
same_ports : {B : Type 0} (f : ℕ → Label) (g : B → Label) (cs : List ℕ) (ys : List B) (d : B) → length cs ≡ length ys
    → ((p : ℕ) → p < length ys → f (get_or cs p 0) ≡ g (get_or ys p d)) → map f cs ≡ map g ys
same_ports f g [] [] d e h = refl
same_ports f g [] (y ∷ ys) d e h = absurd (omega (arith, e))
same_ports f g (c ∷ cs) [] d e h = absurd (omega (arith, e))
same_ports f g (c ∷ cs) (y ∷ ys) d e h =
    let rest = same_ports f g cs ys d (omega (arith, e)) (λ p l. h (suc p) (omega (arith, l))) in
    ap (λ (x : Label). x ∷ map f cs) (h 0 (omega arith)) ∙ ap (λ (xs : List Label). g y ∷ xs) rest

map_id : (ls : List Label) → map (λ l. l) ls ≡ ls
map_id [] = refl
map_id (l ∷ ls) = ap (λ (ks : List Label). l ∷ ks) (map_id ls)

module _ (rules : Rules) where
  -- labels that are allowed are as many as the kind has ports
  abbrev pub Arity : Type 0
  Arity = (k : Kind) (ins outs : List Label) → rules k ins outs → (length ins ≡ ins_of (meaning [] k)) × (length outs ≡ outs_of (meaning [] k))

  -- a drain takes any label, and a cast copies it
  abbrev pub Ends : Type 0
  Ends = (n : ℕ) (l : Label) → rules (ending_kind n) (l ∷ []) (over (λ _. l) 0 n)

  ruled_from : (labels : ℕ → Label) (base : ℕ) (made : List Made) → Ruled rules labels base made
      → (b : ℕ) → b < length made → RuledBlock rules labels (base + first_output made b) (made_at made b)
  ruled_from labels base [] t b l = absurd (omega (arith, l))
  ruled_from labels base (m ∷ made) t zero l =
      let here : base ≡ base + 0 = omega arith in subst (λ (n : ℕ). RuledBlock rules labels n m) here t.0
  ruled_from labels base (m ∷ made) t (suc b) l =
      let number = length-append m.labels (labels_of (take b made)) in
      let here : (base + length m.labels) + first_output made b ≡ base + first_output (m ∷ made) (suc b) = omega (arith, number) in
      subst (λ (n : ℕ). RuledBlock rules labels n (made_at made b)) here
      (ruled_from labels (base + length m.labels) made t.1 b (omega (arith, l)))

  allowed_same : (k k' : Kind) (ins ins' outs outs' : List Label) → k ≡ k' → ins ≡ ins' → outs ≡ outs' → rules k ins outs
      → rules k' ins' outs'
  allowed_same k k' ins ins' outs outs' e f g h =
      subst (λ (x : Kind). rules x ins' outs') e
      (subst (λ (i : List Label). rules k i outs') f (subst (λ (o : List Label). rules k ins o) g h))

  module _ (arity : Arity) (ends : Ends) (made : List Made) (sound : Sound rules made) where
    abbrev channel_label : ℕ → Label
    channel_label c = label_on (graph_of made) c

    ruled_block : (b : ℕ) → b < length made → RuledBlock rules (label_at made) (first_output made b) (made_at made b)
    ruled_block b l =
        let here : 0 + first_output made b ≡ first_output made b = omega arith in
        subst (λ (n : ℕ). RuledBlock rules (label_at made) n (made_at made b)) here (ruled_from (label_at made) 0 made sound b l)

    ports_earlier : PortsEarlier made
    ports_earlier b p l m = All-get_or (λ w. w < first_output made b) (made_at made b).ins p 0 m (ruled_block b l).earlier

    has_ports : (b : ℕ) → b < length made → HasPorts made b
    has_ports b l =
        let n = arity (made_at made b).kind (map (label_at made) (made_at made b).ins) (made_at made b).labels (ruled_block b l).allowed in
        record { ins_number = sym (length-map (made_at made b).ins (label_at made)) ∙ n.0; outs_number = n.1 }

    -- The graph is well formed.
    pub draft-formed : WellFormed (graph_of made)
    draft-formed = formed made ports_earlier has_ports

    ports_within : (b p : ℕ) → b < length made → p < length (made_at made b).ins → get_or (made_at made b).ins p 0 < outputs_of made
    ports_within b p l m = omega (arith, ports_earlier b p l m, first-output-within made b (omega (arith, l)))

    -- the labels at the ports of a block of the draft
    pub draft-inputs : (b : ℕ) → b < length made → map channel_label (block (graph_of made) b).ins ≡ map (label_at made) (made_at made b).ins
    draft-inputs b l =
        same_ports channel_label (label_at made) (block (graph_of made) b).ins (made_at made b).ins 0 (ins-number made b l)
        (λ p m.
        ap channel_label (in-port made b p l m)
        ∙ ap (λ (x : Channel). x.label) (leads-to-port made b p (get_or (made_at made b).ins p 0) l m refl (ports_within b p l m)).same)

    draft_outputs : (b : ℕ) → b < length made → map channel_label (block (graph_of made) b).outs ≡ (made_at made b).labels
    draft_outputs b l =
        same_ports channel_label (λ l. l) (block (graph_of made) b).outs (made_at made b).labels no_label (outs-number made b l)
        (λ p m.
        ap channel_label (out-port made b p l m)
        ∙ ap (λ (x : Channel). x.label) (channel-of-output made b p l m)
        ∙ output-label made b p l m)
        ∙ map_id (made_at made b).labels

    abbrev AllowedAt : ℕ → Type 0
    AllowedAt b =
        rules (block (graph_of made) b).kind (map channel_label (block (graph_of made) b).ins) (map channel_label (block (graph_of made) b).outs)

    draft_allowed : (b : ℕ) → b < length made → AllowedAt b
    draft_allowed b l =
        allowed_same _ _ _ _ _ _ (ap (λ (x : Block). x.kind) (sym (block-of-draft made b l)))
        (sym (draft-inputs b l)) (sym (draft_outputs b l)) (ruled_block b l).allowed

    ending_allowed : (w : ℕ) → w < outputs_of made → has_one made w ≡ false → AllowedAt (ending made w)
    ending_allowed w l e =
        let is = block-of-ending made w l e in
        let input : channel_label w ≡ label_at made w = ap (λ (x : Channel). x.label) (channel-of-number made w l) in
        let number : ℕ = length (readers made w) in
        let outputs : map channel_label (range_with_len (first_copy made w) number) ≡ over (λ _. label_at made w) 0 number =
        same_labels channel_label (label_at made w) (first_copy made w) 0 number
        (λ i m. ap (λ (x : Channel). x.label) (channel-of-copy made w i l (omega (arith, m, copies-ended made w e)))) in
        allowed_same _ _ _ _ _ _ (ap (λ (x : Block). x.kind) (sym is))
        (sym (ap (λ (x : Block). map channel_label x.ins) is ∙ ap (λ (k : Label). k ∷ []) input))
        (sym (ap (λ (x : Block). map channel_label x.outs) is ∙ outputs))
        (ends number (label_at made w))

    -- The labels of each of its blocks are allowed.
    pub draft-allowed : RulesMet rules (graph_of made)
    draft-allowed = all-blocks made AllowedAt draft_allowed ending_allowed
