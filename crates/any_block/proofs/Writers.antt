-- The writers of a graph, where all its blocks are through.
use Rattle.std.proofs.Common.{◌≡◌, ◌∙◌, ◌<◌, ◌≤◌, ◌+◌, ℕ, Bool, true, false, not, cond, List, [], ◌∷◌, ◌++◌, length, slice_get, Option, Some, None, refl, ap, subst, arith}
use Rattle.std.specs.Prelude.{nat_lt}
use Rattle.std.specs.Option.{unwrap_or}
use Rattle.std.specs.List.{position_or_len, range_with_len}
use mathlib.Core.List.{map}
use Rattle.std.proofs.lemmas.Bool.{eqb-true}
use Rattle.std.proofs.lemmas.Bool.Decides.{nat_tests}
use Rattle.std.proofs.lemmas.Option.{slice_get_within}
use Rattle.std.proofs.lemmas.List.FromFn.{map-range_with_len_more}
use Rattle.std.proofs.lemmas.List.Sums.{passes_at_first, prefix_len-le-length}
use Rattle.sam_model.specs.Children.{Ranked}
use Rattle.sam_model.specs.declared.tensors.Written.{Written}
use Rattle.block_core.specs.Ports.{Streams}
use Rattle.block_core.specs.Written.{segs_of, crds_of, vals_of}
use Rattle.block_core.specs.Kind.{Kind, WriteLevelKind, WriteValueKind, moves}
use Rattle.graph.specs.declared.graphs.Kind.{Kind as BlockKind}
use Rattle.graph.specs.declared.graphs.Kind.TheVariants as kind
use Rattle.graph.specs.declared.graphs.Block.{Block}
use Rattle.graph.specs.declared.graphs.Graph.{Graph}
use Rattle.graph.specs.Meaning.{meaning}
use Rattle.graph.specs.Wiring.{no_block, block}
use Rattle.graph.specs.WholeStreams.{whole_inputs}
use Rattle.graph.specs.Standing.{StandAt, final_position}
use Rattle.graph.specs.Writers.{writes_level, writes_values, first_block, level_stream, value_stream, written_listing}

is-level_writer : (d : ℕ) (k : BlockKind) → writes_level d k ≡ true → k ≡ kind.WriteLevel d
is-level_writer d (kind.WriteLevel level) e = ap kind.WriteLevel (eqb-true level d e)
is-level_writer d other e = absurd (cc)

is_value-writer : (k : BlockKind) → writes_values k ≡ true → k ≡ kind.WriteValue
is_value-writer kind.WriteValue e = refl
is_value-writer other e = absurd (cc)

-- a block at the end of its moves, of a kind that is known
pub record Ended {B : Type 0} (kind : B → Kind) (stands : B → Streams → ℕ → Type 0) (x : B) (k : Kind) (s : Streams) : Type 0 where
  pub same_kind : kind x ≡ k
  pub through : stands x s (length (moves k s))

module _ {B : Type 0} (kind_of : B → Kind) (stands : B → Streams → ℕ → Type 0) (storages : List Ranked) (g : Graph) (blocks : List B)
    (h : StandAt kind_of stands storages g (final_position storages g) blocks) where
  -- the first block of some kind, where it is there
  first-ended : (test : BlockKind → Bool) (k : BlockKind) → ((x : BlockKind) → test x ≡ true → x ≡ k)
      → (x : B) → slice_get blocks (first_block test g) ≡ Some x
      → Ended kind_of stands x (meaning storages k) (whole_inputs storages g (first_block test g))
  first-ended test k only x at =
      let b = first_block test g in
      let inside : b < length g.blocks = subst (λ (n : ℕ). b < n) h.number (slice_get_within blocks b x at) in
      let is : (block g b).kind ≡ k = only (block g b).kind (passes_at_first (λ (y : Block). test y.kind) g.blocks no_block inside) in
      let P : BlockKind → Type 0 = λ y. Ended kind_of stands x (meaning storages y) (whole_inputs storages g b) in
      subst P is (record { same_kind = h.kinds b x at; through = h.placed b x at })

  pub level-ended : (d : ℕ) (x : B) → slice_get blocks (first_block (writes_level d) g) ≡ Some x
      → Ended kind_of stands x (WriteLevelKind d) (whole_inputs storages g (first_block (writes_level d) g))
  level-ended d x at = first-ended (writes_level d) (kind.WriteLevel d) (is-level_writer d) x at

  pub values-ended : (x : B) → slice_get blocks (first_block writes_values g) ≡ Some x
      → Ended kind_of stands x WriteValueKind (whole_inputs storages g (first_block writes_values g))
  values-ended x at = first-ended writes_values kind.WriteValue is_value-writer x at

-- the first place that passes, or the length where none does
pub or-length : {X : Type 0} (test : X → Bool) (xs : List X) (r : Option ℕ)
    → r ≡ cond (nat_lt (position_or_len test xs) (length xs)) (Some (position_or_len test xs)) None
    → unwrap_or r (length xs) ≡ position_or_len test xs
or-length {X = X} test xs r e = ap (λ (x : Option ℕ). unwrap_or x (length xs)) e ∙ either (nat_lt (position_or_len test xs) (length xs)) refl
  where
    within : position_or_len test xs ≤ length xs
    within = prefix_len-le-length (λ x. not (test x)) xs

    either : (b : Bool) → nat_lt (position_or_len test xs) (length xs) ≡ b
        → unwrap_or (cond b (Some (position_or_len test xs)) None) (length xs) ≡ position_or_len test xs
    either true t = refl
    either false t = grind (arith, nat_tests, within)

-- one level more
pub level-more : {X : Type 0} (f : ℕ → X) (n : ℕ) (xs ys : List X) (x : X) → xs ≡ map f (range_with_len 1 n) → x ≡ f (n + 1) → ys ≡ xs ++ x ∷ []
    → ys ≡ map f (range_with_len 1 (n + 1))
level-more f n xs ys x e next more =
    let count : 1 + n ≡ n + 1 = omega arith in
    rw (more, e, next, map-range_with_len_more f 1 n (n + 1) count) refl

pub all-listed : (storages : List Ranked) (g : Graph) (levels n : ℕ) (segs crds : List (List ℕ)) (vals : List ℕ) → n ≡ levels
    → segs ≡ map (λ d. segs_of d (level_stream storages g d)) (range_with_len 1 n)
    → crds ≡ map (λ d. crds_of (level_stream storages g d)) (range_with_len 1 n)
    → vals ≡ vals_of (value_stream storages g)
    → ◌≡◌ {A = Written} (record { segs = segs; crds = crds; vals = vals }) (written_listing storages g levels)
all-listed storages g levels n segs crds vals all s c v = rw (s, c, v, all) refl
