-- In a well formed graph whose blocks all meet their rules, each channel carries the stream of its label.
use Rattle.std.specs.Prelude.{◌≡◌, ◌<◌, ℕ, zero, suc, List, [], ◌∷◌, length, get_or}
use mathlib.Core.List.{map}
use Rattle.std.proofs.Common.{arith, sym, ◌∙◌, ap, subst}
use Rattle.std.proofs.lemmas.List.{get_or-map}
use Rattle.stream_tokens.specs.declared.Token.{Token}
use Rattle.stream_tokens.proofs.Algebra.{map-map}
use Rattle.sam_model.specs.Children.{Ranked}
use Rattle.stream_model.specs.declared.labels.Label.{Label}
use Rattle.block_core.specs.Ports.{Streams, port}
use Rattle.block_core.specs.Kind.{Fits, outputs}
use Rattle.graph.specs.declared.graphs.Graph.{Graph}
use Rattle.graph.specs.Meaning.{meaning}
use Rattle.graph.specs.Wiring.{block, channel, into, WellFormed}
use Rattle.graph.specs.WholeStreams.{whole_stream}
use Rattle.graph.specs.Laws.{Given}
use Rattle.graph.proofs.Streams.{map-agree, only-whole-streams}
use Rattle.label_rules.specs.Holding.{label_on, Rules, RulesMet, EachLabel, Keeps, RulesSound, LabelsHold}

-- what holds of each label of some channels
each_label : (good : Label → Type 0) (g : Graph) (cs : List ℕ) → ((q : ℕ) → q < length cs → good (label_on g (get_or cs q 0)))
    → EachLabel good (map (label_on g) cs)
each_label good g [] h = tt
each_label good g (c ∷ cs) h = (h 0 (omega arith), each_label good g cs (λ q l. h (suc q) (omega (arith, l))))

label_at : (good : Label → Type 0) (g : Graph) (cs : List ℕ) (q : ℕ) → q < length cs → EachLabel good (map (label_on g) cs)
    → good (label_on g (get_or cs q 0))
label_at good g [] q l h = absurd (omega (arith, l))
label_at good g (c ∷ cs) zero l h = h.0
label_at good g (c ∷ cs) (suc q) l h = label_at good g cs q (omega (arith, l)) h.1

module _ (storages : List Ranked) (stream : Label → List Token) (good : Label → Type 0) (rules : Rules)
    (sound : RulesSound storages stream good rules) (g : Graph) (w : WellFormed g) (met : RulesMet rules g) where
  abbrev streams : ℕ → List Token
  streams c = stream (label_on g c)

  -- from the blocks that nothing leads to onwards, all labels are good
  good_label : (n c : ℕ) → c < length g.channels → w.forwards.0 (channel g c).from_block < n → good (label_on g c)
  good_label zero c l r = absurd (omega (arith, r))
  good_label (suc n) c l r =
      subst (λ (d : ℕ). good (label_on g d)) (w.came c l).2
      (label_at good g (block g b).outs (channel g c).from_port (w.came c l).1
      (sound (block g b).kind (map (label_on g) (block g b).ins) (map (label_on g) (block g b).outs) (met b (w.came c l).0)
      (each_label good g (block g b).ins (early (good_label n)))).each)
    where
      b : ℕ
      b = (channel g c).from_block

      early : ((e : ℕ) → e < length g.channels → w.forwards.0 (channel g e).from_block < n → good (label_on g e))
          → (q : ℕ) → q < length (block g b).ins → good (label_on g (into g b q))
      early before q i =
          let named = w.in_named b q (w.came c l).0 i in
          let up = w.forwards.1 (into g b q) named.0 in
          let here : w.forwards.0 (channel g (into g b q)).to_block ≡ w.forwards.0 b = ap w.forwards.0 named.1 in
          before (into g b q) named.0 (omega (arith, up, here, r))

  kept : (b : ℕ) → b < length g.blocks → Keeps storages stream good (block g b).kind (map (label_on g) (block g b).ins) (map (label_on g) (block g b).outs)
  kept b l =
      sound (block g b).kind (map (label_on g) (block g b).ins) (map (label_on g) (block g b).outs) (met b l)
      (each_label good g (block g b).ins
      (λ q i.
      let named = w.in_named b q l i in
      good_label (suc (w.forwards.0 (channel g (into g b q)).from_block)) (into g b q) named.0 (omega arith)))

  -- the streams of the labels are given by the blocks
  given : Given storages g streams
  given c l =
      sym
      (ap (λ (ss : Streams). port q (outputs (meaning storages (block g b).kind) ss)) (sym (map-map stream (label_on g) (block g b).ins))
      ∙ ap (port q) (kept b (w.came c l).0).gives
      ∙ ap (port q) (map-map stream (label_on g) (block g b).outs)
      ∙ get_or-map streams (block g b).outs q 0 [] (w.came c l).1
      ∙ ap streams (w.came c l).2)
    where
      b : ℕ
      b = (channel g c).from_block

      q : ℕ
      q = (channel g c).from_port

  whole : (c : ℕ) → c < length g.channels → whole_stream storages g c ≡ streams c
  whole c l = sym (only-whole-streams storages g streams w given c l)

  pub rules-hold : LabelsHold storages stream good g
  rules-hold = record {
    consistent = λ b l.
        subst (Fits (meaning storages (block g b).kind))
        (map-map stream (label_on g) (block g b).ins
        ∙ map-agree streams (whole_stream storages g) (block g b).ins
        (λ q i. let named = w.in_named b q l i in sym (whole (into g b q) named.0)))
        (kept b l).fits;
    labels = whole;
  }
