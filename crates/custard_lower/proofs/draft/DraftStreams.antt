-- The writers of the graph of a draft, and the whole streams at its blocks, where each channel carries the stream of its label.
use Rattle.std.specs.Prelude.{◌≡◌, ◌<◌, ℕ, Bool, List, length}
use Rattle.std.specs.List.{position_or_len}
use mathlib.Core.List.{map}
use Rattle.std.proofs.Common.{arith, sym, ◌∙◌, ap}
use Rattle.std.proofs.lemmas.List.Sums.{position_or_len_is, fails_before_first, passes_at_first}
use Rattle.stream_tokens.specs.declared.Token.{Token}
use Rattle.stream_tokens.proofs.Algebra.{map-map}
use Rattle.sam_model.specs.Children.{Ranked}
use Rattle.stream_model.specs.declared.labels.Label.{Label}
use Rattle.graph.specs.declared.graphs.Kind.{Kind}
use Rattle.graph.specs.declared.graphs.Block.{Block}
use Rattle.graph.specs.Wiring.{no_block, block}
use Rattle.graph.specs.WholeStreams.{whole_stream, whole_inputs}
use Rattle.graph.specs.Writers.{first_block}
use Rattle.graph.proofs.Streams.{map-agree}
use Rattle.custard_lower.specs.declared.drafts.Made.{Made}
use Rattle.custard_lower.specs.Drafts.{label_at}
use Rattle.label_rules.specs.Holding.{label_on, Rules, LabelsHold}
use Rattle.custard_lower.specs.DraftGraph.{no_made, made_at, graph_of}
use Rattle.custard_lower.proofs.draft.Emitted.{Sound}
use Rattle.custard_lower.proofs.draft.GraphPlaces.{block-of-draft, draft-blocks-within}
use Rattle.custard_lower.proofs.draft.DraftRuled.{Arity, Ends, draft-formed, draft-inputs}

-- ---- kinds

module _ (made : List Made) where
  -- a block of the draft keeps its kind
  pub kind-of-draft : (b : ℕ) → b < length made → (block (graph_of made) b).kind ≡ (made_at made b).kind
  kind-of-draft b l = ap (λ (x : Block). x.kind) (block-of-draft made b l)

  -- the first block of the draft that passes a test is the graph's
  pub first-block-of-draft : (test : Kind → Bool) → position_or_len (λ m. test m.kind) made < length made
      → first_block test (graph_of made) ≡ position_or_len (λ m. test m.kind) made
  first-block-of-draft test l =
      let first : ℕ = position_or_len (λ m. test m.kind) made in
      position_or_len_is (λ (b : Block). test b.kind) (graph_of made).blocks first no_block
      (omega (arith, l, draft-blocks-within made))
      (λ k h. ap test (kind-of-draft k (omega (arith, h, l))) ∙ fails_before_first (λ m. test m.kind) made k no_made h)
      (λ h. ap test (kind-of-draft first l) ∙ passes_at_first (λ m. test m.kind) made no_made l)

-- ---- streams

module _ (rules : Rules) (arity : Arity rules) (ends : Ends rules) (made : List Made) (sound : Sound rules made)
    (storages : List Ranked) (stream : Label → List Token) (good : Label → Type 0)
    (holds : LabelsHold storages stream good (graph_of made)) where
  -- the whole inputs of a block of the draft are the streams of the labels of the outputs that it reads
  pub draft-whole-inputs : (b : ℕ) → b < length made
      → whole_inputs storages (graph_of made) b ≡ map (λ w. stream (label_at made w)) (made_at made b).ins
  draft-whole-inputs b l =
      let g = graph_of made in
      let w = draft-formed rules arity ends made sound in
      map-agree (whole_stream storages g) (λ c. stream (label_on g c)) (block g b).ins
      (λ q i. holds.labels _ (w.in_named b q (omega (arith, l, draft-blocks-within made)) i).0)
      ∙ sym (map-map stream (label_on g) (block g b).ins)
      ∙ ap (map stream) (draft-inputs rules arity ends made sound b l)
      ∙ map-map stream (label_at made) (made_at made b).ins
