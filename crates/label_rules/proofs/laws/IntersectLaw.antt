-- An intersect of two masks of a product tree gives the coordinates that both let follow, with the ranks of both.
use Rattle.std.specs.Prelude.{◌≡◌, ◌≤◌, ℕ, suc, Bool, true, false, ◌&&◌, List, [], ◌∷◌, ◌++◌, length, refl}
use mathlib.Core.List.{map}
use Rattle.std.proofs.Common.{sym, ◌∙◌, ap, subst}
use Rattle.std.proofs.lemmas.List.{length-map, map-append}
use Rattle.stream_tokens.proofs.Algebra.{map-map}
use Rattle.block_core.specs.Ports.{Streams}
use Rattle.block_core.specs.Kind.{IntersectKind}
use Rattle.block_core.proofs.Given.{Gives}
use Rattle.stream_model.specs.declared.labels.Attr.TheVariants.{Coordinate, Rank}
use Rattle.stream_model.specs.Terms.{TermData}
use Rattle.stream_model.specs.Trees.{all_admit, in_product, in_whole}
use Rattle.stream_model.specs.Labels.{loop_sizes}
use Rattle.stream_model.specs.Tellings.{Telling, told, deeper}
use Rattle.stream_model.specs.Masks.{any_of}
use Rattle.sam_model.proofs.Lists.{map-ext}
use Rattle.stream_model.proofs.Grown.{InTree, paths-InTree}
use Rattle.stream_model.proofs.Levels.{deeper-same}
use Rattle.stream_model.proofs.Masks.{all_admit-any_of}
use Rattle.stream_model.proofs.Products.{product-longer}
use Rattle.label_rules.proofs.laws.ItemStreams.{gives-same}
use Rattle.label_rules.proofs.laws.ProductTrees.{product_stream, prefixes, product-beneath}
use Rattle.label_rules.proofs.laws.ScanLaw.{ranks}
use Rattle.label_rules.proofs.laws.MergeSides.{side}
use Rattle.label_rules.proofs.laws.MergeLaws.{meet-law}

-- the coordinates of a mask, with the ranks of these accesses
abbrev pub side_labels : TermData → ℕ → List Bool → List ℕ → Streams
side_labels t d mask fs = product_stream t (suc d) mask Coordinate ∷ map (λ f. product_stream t (suc d) mask (Rank f)) fs

side_beneath : (t : TermData) (d : ℕ) (mask : List Bool) (fs : List ℕ)
    → side (map (ranks t) fs) (deeper (in_product t (suc d) mask) (loop_sizes t.loops) (prefixes t d)) ≡ side_labels t d mask fs
side_beneath t d mask fs =
    rw (
      map-map (λ (x : Telling). told x (deeper (in_product t (suc d) mask) (loop_sizes t.loops) (prefixes t d))) (ranks t) fs,
      map-ext (λ f. told (ranks t f) (deeper (in_product t (suc d) mask) (loop_sizes t.loops) (prefixes t d)))
          (λ f. product_stream t (suc d) mask (Rank f)) (λ f. sym (product-beneath t d mask (Rank f))) fs,
      product-beneath t d mask Coordinate,
    ) refl

-- both masks let follow what the mask of both does
pub met-below : (t : TermData) (d : ℕ) (M N : List Bool) (p : List ℕ) (c : ℕ) → length p ≡ d
    → (in_product t (suc d) M (p ++ c ∷ []) && in_product t (suc d) N (p ++ c ∷ [])) ≡ in_product t (suc d) (any_of M N) (p ++ c ∷ [])
met-below t d M N p c e =
    rw (
      product-longer t d M p c e,
      product-longer t d N p c e,
      product-longer t d (any_of M N) p c e,
      all_admit-any_of M N t.accesses p c,
    ) (one (in_whole t p) (all_admit M t.accesses p c) (all_admit N t.accesses p c))
  where
    one : (a b c : Bool) → ((a && b) && (a && c)) ≡ (a && (b && c))
    one true b c = refl
    one false b c = refl

-- two masks of a level, with ranks of some accesses each, give the mask of both with all these ranks
pub intersect-law : (t : TermData) (d : ℕ) (M N : List Bool) (fs gs : List ℕ) → suc d ≤ 200
    → Gives (IntersectKind (length fs) (length gs)) (side_labels t d M fs ++ side_labels t d N gs)
    (side_labels t d (any_of M N) (fs ++ gs))
intersect-law t d M N fs gs h =
    let S = loop_sizes t.loops in
    let P = in_product t (suc d) M in
    let Q = in_product t (suc d) N in
    let outs = side_labels t d (any_of M N) (fs ++ gs) in
    subst (λ (l : ℕ). Gives (IntersectKind l (length gs)) (side_labels t d M fs ++ side_labels t d N gs) outs) (length-map fs (ranks t))
    (subst (λ (r : ℕ). Gives (IntersectKind (length (map (ranks t) fs)) r) (side_labels t d M fs ++ side_labels t d N gs) outs)
    (length-map gs (ranks t))
    (gives-same (IntersectKind (length (map (ranks t) fs)) (length (map (ranks t) gs))) _ _ _ _
    (ap (λ (ss : Streams). ss ++ side (map (ranks t) gs) (deeper Q S (prefixes t d))) (side_beneath t d M fs)
    ∙ ap (λ (ss : Streams). side_labels t d M fs ++ ss) (side_beneath t d N gs))
    (ap (λ (xs : List Telling). side xs (deeper (λ q. P q && Q q) S (prefixes t d))) (sym (map-append (ranks t) fs gs))
    ∙ ap (side (map (ranks t) (fs ++ gs)))
    (deeper-same (InTree (in_whole t) S d) (λ q. P q && Q q) (in_product t (suc d) (any_of M N)) S S (prefixes t d)
    (paths-InTree (in_whole t) S refl d) (λ p i. refl) (λ p c i. met-below t d M N p c i.count))
    ∙ side_beneath t d (any_of M N) (fs ++ gs))
    (meet-law (in_whole t) P Q S d refl h (map (ranks t) fs) (map (ranks t) gs))))
