-- The blocks of a graph, made one after another.
use Rattle.std.proofs.Common.{◌≡◌, ◌∙◌, ◌<◌, ◌+◌, ◌⊎◌, inl, inr, ℕ, zero, suc, List, [], ◌∷◌, ◌++◌, length, get_or, slice_get, Some, refl, sym, ap, subst, length-append}
use Rattle.std.proofs.lemmas.List.{get_or_read_under}
use Rattle.std.proofs.lemmas.Option.{slice_get_within}
use Rattle.sam_model.specs.Children.{Ranked}
use Rattle.block_core.specs.Ports.{Streams}
use Rattle.block_core.specs.Kind.{Kind}
use Rattle.block_core.specs.Stands.{StandsAtStart}
use Rattle.graph.specs.declared.graphs.Block.{Block}
use Rattle.graph.specs.declared.graphs.Graph.{Graph}
use Rattle.graph.specs.Meaning.{meaning}
use Rattle.graph.specs.Wiring.{no_block, block}
use Rattle.graph.specs.WholeStreams.{Consistent, whole_inputs}
use Rattle.graph.specs.Standing.{StandAt, start_position}

-- a block of this kind, at its start on whole inputs that fit
pub record IsNew {B : Type 0} (kind : B → Kind) (stands : B → Streams → ℕ → Type 0) (k : Kind) (x : B) : Type 0 where
  pub same_kind : kind x ≡ k
  pub starts : StandsAtStart (stands x) k

-- the blocks for the first n of a graph
pub record Made {B : Type 0} (kind : B → Kind) (stands : B → Streams → ℕ → Type 0) (storages : List Ranked) (g : Graph) (n : ℕ)
    (blocks : List B) : Type 0 where
  pub number : length blocks ≡ n
  pub each : (b : ℕ) (x : B) → slice_get blocks b ≡ Some x → IsNew kind stands (meaning storages (block g b).kind) x

-- the block of a graph that was read by its number
pub block-is : (g : Graph) (blocks : List Block) (n : ℕ) (x : Block) → blocks ≡ g.blocks → n < length blocks → x ≡ get_or blocks n x → x ≡ block g n
block-is g blocks n x e inside is = rw (sym e) (get_or_read_under blocks n (length blocks) x no_block is inside refl)

module _ {B : Type 0} (kind : B → Kind) (stands : B → Streams → ℕ → Type 0) (storages : List Ranked) (g : Graph) where
  -- an element of a longer list was there before, or is the new one
  before-or-last : (blocks : List B) (y : B) (b : ℕ) (x : B) → slice_get (blocks ++ y ∷ []) b ≡ Some x
      → (slice_get blocks b ≡ Some x) ⊎ ((b ≡ length blocks) × (y ≡ x))
  before-or-last [] y zero x e = inr (refl, cc)
  before-or-last [] y (suc b) x e = absurd (cc)
  before-or-last (z ∷ zs) y zero x e = inl e
  before-or-last (z ∷ zs) y (suc b) x e = elim (before-or-last zs y b x e) [ inl h ↦ inl h | inr h ↦ inr (ap (λ n. suc n) h.0, h.1) ]

  pub made-more : (n : ℕ) (blocks blocks' : List B) (y : B) → Made kind stands storages g n blocks
      → IsNew kind stands (meaning storages (block g n).kind) y → blocks' ≡ blocks ++ y ∷ []
      → Made kind stands storages g (n + 1) blocks'
  made-more n blocks blocks' y m new e = rw e (record { number = rw (length-append, m.number) refl; each = λ b x at. either b x (before-or-last blocks y b x at) })
    where
      either : (b : ℕ) (x : B) → (slice_get blocks b ≡ Some x) ⊎ ((b ≡ length blocks) × (y ≡ x)) → IsNew kind stands (meaning storages (block g b).kind) x
      either b x (inl h) = m.each b x h
      either b x (inr h) = rw (h.0, m.number, sym h.1) new

  pub made-all : (n : ℕ) (blocks : List B) → n ≡ length g.blocks → Made kind stands storages g n blocks → Consistent storages g
      → StandAt kind stands storages g start_position blocks
  made-all n blocks e m fits = record {
    number = m.number ∙ e;
    kinds = λ b x at. (m.each b x at).same_kind;
    placed = λ b x at. (m.each b x at).starts (whole_inputs storages g b)
        (fits b (subst (λ (k : ℕ). b < k) (m.number ∙ e) (slice_get_within blocks b x at)));
  }
