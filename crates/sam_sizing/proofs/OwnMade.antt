-- What a maker makes are a graph's own blocks at their starts.
use Rattle.std.specs.Prelude.{◌≡◌, ◌<◌, ℕ, List, map, length, slice_get, Some, option_map}
use Rattle.std.proofs.Common.{sym, ◌∙◌, ap, subst}
use Rattle.std.proofs.lemmas.Option.{slice_get-map, slice_get_within, slice_get-get_or}
use Rattle.std.proofs.lemmas.List.{length-map}
use Rattle.sam_model.specs.Children.{Ranked}
use Rattle.block_core.specs.Ports.{Streams}
use Rattle.block_core.specs.Kind.{Kind}
use Rattle.block_core.specs.Stands.{StandsAtStart}
use Rattle.graph.specs.declared.graphs.Graph.{Graph}
use Rattle.graph.specs.declared.graphs.Block.{Block}
use Rattle.graph.specs.Meaning.{meaning}
use Rattle.graph.specs.Wiring.{no_block, block}
use Rattle.graph.specs.WholeStreams.{whole_inputs}
use Rattle.graph.specs.Standing.{StandAt, start_position}
use Rattle.sam_sizing.specs.Makers.{AreAtStart, kinds_over, MakesFor}

module _ {B : Type 0} (kind : B → Kind) (stands : B → Streams → ℕ → Type 0) (storages : List Ranked) (g : Graph)
    (kinds : List Kind) (blocks : List B) (makes : MakesFor storages g kinds) (same : map kind blocks ≡ kinds) where
  same_number : length blocks ≡ length g.blocks
  same_number =
      sym (length-map blocks kind) ∙ ap (λ (ks : List Kind). length ks) (same ∙ makes.own)
      ∙ length-map g.blocks (λ (x : Block). meaning storages x.kind)

  within_graph : (b : ℕ) (x : B) → slice_get blocks b ≡ Some x → b < length g.blocks
  within_graph b x at = subst (λ (n : ℕ). b < n) same_number (slice_get_within blocks b x at)

  own_kind : (b : ℕ) (x : B) → slice_get blocks b ≡ Some x → kind x ≡ meaning storages (block g b).kind
  own_kind b x at =
      let here : slice_get (map kind blocks) b ≡ Some (kind x) = slice_get-map kind blocks b ∙ ap (option_map kind) at in
      let there : slice_get (kinds_over storages g) b ≡ Some (meaning storages (block g b).kind) =
      slice_get-map (λ (y : Block). meaning storages y.kind) g.blocks b
      ∙ ap (option_map (λ (y : Block). meaning storages y.kind)) (slice_get-get_or g.blocks b no_block (within_graph b x at)) in
      let both : slice_get (map kind blocks) b ≡ slice_get (kinds_over storages g) b =
      ap (λ (ks : List Kind). slice_get ks b) (same ∙ makes.own) in
      let e : Some (kind x) ≡ Some (meaning storages (block g b).kind) = sym here ∙ both ∙ there in
      cc

  pub own-made : AreAtStart kind stands blocks → StandAt kind stands storages g start_position blocks
  own-made starts = record {
    number = same_number;
    kinds = own_kind;
    placed = λ b x at. subst (λ (k : Kind). StandsAtStart (stands x) k) (own_kind b x at) (starts b x at) (whole_inputs storages g b)
        (makes.consistent b (within_graph b x at));
  }
