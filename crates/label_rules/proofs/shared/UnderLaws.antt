-- The laws of a term's levels below a frame: the plain trees are those below the frame of one term alone.
use Rattle.std.specs.Prelude.{◌≡◌, ◌<◌, ◌≤◌, ℕ, suc, Bool, true, false, cond, ◌&&◌, List, [], ◌∷◌, ◌++◌, length, take, get_or, leb, ltb, slice_index, Some, None, refl}
use mathlib.Core.List.{map}
use Rattle.std.proofs.Math.Path.{fun_ext}
use Rattle.std.proofs.Common.{arith, sym, ◌∙◌, ap, subst}
use Rattle.std.proofs.lemmas.List.{length_push, length-map, map-append}
use Rattle.std.proofs.lemmas.Bool.{and_parts}
use Rattle.std.proofs.lemmas.Bool.Decides.{nat_tests}
use Rattle.sam_model.specs.Children.{Ranked, ranked, values_of}
use Rattle.sam_model.specs.Tensors.{rank_of}
use Rattle.levels.specs.Reads.{children_at}
use Rattle.stream_tokens.specs.declared.Token.{Token}
use Rattle.stream_tokens.proofs.Algebra.{map-map}
use Rattle.block_core.specs.Ports.{Streams}
use Rattle.block_core.specs.Kind.{ScanKind, RepeatKind, IntersectKind, ArrayKind}
use Rattle.block_core.proofs.Given.{Gives}
use Rattle.stream_model.specs.declared.labels.Attr.{Attr}
use Rattle.stream_model.specs.declared.labels.Attr.TheVariants.{Coordinate, Rank}
use Rattle.stream_model.specs.Grow.{path_fibers}
use Rattle.stream_model.specs.Terms.{TermData, Summand, access_at}
use Rattle.stream_model.specs.Trees.{in_product, in_whole, everyone}
use Rattle.stream_model.specs.Labels.{loop_sizes, only_where, under_shape, across_shape, token, stream_at}
use Rattle.stream_model.specs.Masks.{only, final, any_of, levels_before, AllFit}
use Rattle.sam_model.specs.Lists.{below}
use Rattle.sam_model.proofs.Lists.{map-ext, filter-ext}
use Rattle.stream_model.proofs.Grown.{InTree, path_fibers-suc, paths-InTree, paths-same}
use Rattle.stream_model.proofs.Prefixes.{restricted-lacks}
use Rattle.stream_model.proofs.Products.{final-admits, grows-longer, product-longer}
use Rattle.label_rules.proofs.laws.ItemStreams.{gives-same}
use Rattle.label_rules.proofs.laws.ProductTrees.{AllMasked}
use Rattle.stream_model.specs.Tellings.{Prefixes, Telling, told, deeper}
use Rattle.stream_model.specs.Fused.{in_any, below_shared, in_under, in_across}
use Rattle.stream_model.proofs.Levels.{level-beneath, deeper-same, told-stream, told-same}
use Rattle.label_rules.proofs.laws.MergeSides.{side}
use Rattle.label_rules.proofs.laws.ScanLaw.{ranks, scan-law}
use Rattle.label_rules.proofs.laws.RepeatLaw.{repeat-law}
use Rattle.label_rules.proofs.laws.MergeLaws.{meet-law}
use Rattle.label_rules.proofs.laws.IntersectLaw.{met-below}
use Rattle.label_rules.proofs.laws.ArrayLaw.{factors, array-below}

module _ (levels : ℕ) (ss : List Summand) (founded : in_any ss [] ≡ true) (t : TermData) where
  abbrev sizes : List ℕ
  sizes = loop_sizes t.loops

  -- the shared lists of length d, or the term's own where d is below them
  abbrev pub in_frame : List ℕ → Bool
  in_frame p = below_shared levels (in_any ss) (in_whole t) p

  abbrev pub framed : ℕ → Prefixes
  framed d = path_fibers in_frame sizes d

  pub frame-root : in_frame [] ≡ true
  frame-root = let e : leb 0 levels ≡ true = grind (arith, nat_tests) in rw e founded

  -- an access's ranks, where the term has the list
  abbrev pub references : ℕ → ℕ → List Token
  references d k = told (only_where (in_whole t) (ranks t k)) (framed d)

  abbrev pub under_stream : ℕ → List Bool → Attr → List Token
  under_stream d mask a = stream_at (under_shape levels ss t d mask) a

  pub under-beneath : (d : ℕ) (mask : List Bool) (a : Attr)
      → under_stream (suc d) mask a ≡ told (token (under_shape levels ss t (suc d) mask) a) (deeper (in_product t (suc d) mask) sizes (framed d))
  under-beneath d mask a =
      let x = token (under_shape levels ss t (suc d) mask) a in
      told-stream x (in_under levels ss t (suc d) mask) sizes (suc d)
      ∙ ap (told x) (level-beneath in_frame (in_product t (suc d) mask) sizes d frame-root)

  pub under-scan : (k d : ℕ) (r : Ranked) → AllFit t → AllMasked t → d ≤ 200
      → r ≡ ranked (access_at t.accesses k).tensor
      → k < length t.accesses → get_or (access_at t.accesses k).has d false ≡ true
      → Gives (ScanKind (children_at r (suc (levels_before (access_at t.accesses k).has d)))) (references d k ∷ [])
      (under_stream (suc d) (only (length t.accesses) k) Coordinate ∷ under_stream (suc d) (only (length t.accesses) k) (Rank k) ∷ [])
  under-scan k d r fit masked h is_r inside has =
      let mask = only (length t.accesses) k in
      gives-same (ScanKind (children_at r (suc (levels_before (access_at t.accesses k).has d)))) _ _ _ _ refl
      (rw (under-beneath d mask Coordinate, under-beneath d mask (Rank k)) refl)
      (scan-law t k d r fit masked is_r inside has in_frame frame-root h)

  pub under-repeat : (k d : ℕ) → suc d ≤ 200 → get_or (access_at t.accesses k).has d false ≡ false
      → Gives RepeatKind (under_stream (suc d) (final t (suc d)) Coordinate ∷ references d k ∷ [])
      (under_stream (suc d) (final t (suc d)) (Rank k) ∷ [])
  under-repeat k d h lacks =
      gives-same RepeatKind _ _ _ _
      (rw (under-beneath d (final t (suc d)) Coordinate) refl) (rw (under-beneath d (final t (suc d)) (Rank k)) refl)
      (repeat-law in_frame (in_product t (suc d) (final t (suc d))) sizes d (only_where (in_whole t) (ranks t k)) (ranks t k) frame-root h same)
    where
      same : (p : List ℕ) (c : ℕ) → length p ≡ d → in_product t (suc d) (final t (suc d)) (p ++ c ∷ []) ≡ true
          → ranks t k (p ++ c ∷ []) ≡ only_where (in_whole t) (ranks t k) p
      same p c count e =
          ap (λ (u : List ℕ). Some (rank_of (access_at t.accesses k).tensor u))
          (restricted-lacks (access_at t.accesses k) p c (ap (λ (n : ℕ). get_or (access_at t.accesses k).has n false) count ∙ lacks))
          ∙ ap (λ b. cond b (ranks t k p) None)
          (sym (and_parts (in_whole t p) _ (sym (product-longer t d (final t (suc d)) p c count) ∙ e)).0)

  abbrev pub side_labels : ℕ → List Bool → List ℕ → Streams
  side_labels d mask ks = under_stream (suc d) mask Coordinate ∷ map (λ k. under_stream (suc d) mask (Rank k)) ks

  side_beneath : (d : ℕ) (mask : List Bool) (ks : List ℕ)
      → side (map (ranks t) ks) (deeper (in_product t (suc d) mask) sizes (framed d)) ≡ side_labels d mask ks
  side_beneath d mask ks =
      rw (
        map-map (λ (x : Telling). told x (deeper (in_product t (suc d) mask) sizes (framed d))) (ranks t) ks,
        map-ext (λ k. told (ranks t k) (deeper (in_product t (suc d) mask) sizes (framed d)))
            (λ k. under_stream (suc d) mask (Rank k)) (λ k. sym (under-beneath d mask (Rank k))) ks,
        under-beneath d mask Coordinate,
      ) refl

  pub under-intersect : (d : ℕ) (M N : List Bool) (ks ls : List ℕ) → suc d ≤ 200
      → Gives (IntersectKind (length ks) (length ls)) (side_labels d M ks ++ side_labels d N ls) (side_labels d (any_of M N) (ks ++ ls))
  under-intersect d M N ks ls h =
      let P = in_product t (suc d) M in
      let Q = in_product t (suc d) N in
      subst (λ (l : ℕ). Gives (IntersectKind l (length ls)) (side_labels d M ks ++ side_labels d N ls) (side_labels d (any_of M N) (ks ++ ls)))
      (length-map ks (ranks t))
      (subst (λ (r : ℕ). Gives (IntersectKind (length (map (ranks t) ks)) r) (side_labels d M ks ++ side_labels d N ls) (side_labels d (any_of M N) (ks ++ ls)))
      (length-map ls (ranks t))
      (gives-same (IntersectKind (length (map (ranks t) ks)) (length (map (ranks t) ls))) _ _ _ _
      (ap (λ (ss : Streams). ss ++ side (map (ranks t) ls) (deeper Q sizes (framed d))) (side_beneath d M ks)
      ∙ ap (λ (ss : Streams). side_labels d M ks ++ ss) (side_beneath d N ls))
      (ap (λ (xs : List Telling). side xs (deeper (λ q. P q && Q q) sizes (framed d))) (sym (map-append (ranks t) ks ls))
      ∙ ap (side (map (ranks t) (ks ++ ls)))
      (deeper-same (InTree in_frame sizes d) (λ q. P q && Q q) (in_product t (suc d) (any_of M N)) sizes sizes (framed d)
      (paths-InTree in_frame sizes frame-root d) (λ p i. refl) (λ p c i. met-below t d M N p c i.count))
      ∙ side_beneath d (any_of M N) (ks ++ ls))
      (meet-law in_frame P Q sizes d frame-root h (map (ranks t) ks) (map (ranks t) ls))))

  -- where a level is below the shared ones, its final mask has the framed lists, and the ranks are those of the references
  pub own-level : (d : ℕ) → levels ≤ d → path_fibers in_frame sizes (suc d) ≡ deeper (in_whole t) sizes (framed d)
  own-level d h =
      path_fibers-suc in_frame sizes d
      ∙ deeper-same (InTree in_frame sizes d) in_frame (in_whole t) sizes sizes (framed d) (paths-InTree in_frame sizes frame-root d)
      (λ p i. refl) (λ p c i. own (p ++ c ∷ []) (omega (arith, length_push p c, i.count, h)))
    where
      own : (q : List ℕ) → levels < length q → in_frame q ≡ in_whole t q
      own q l = let e : leb (length q) levels ≡ false = grind (arith, nat_tests, l) in rw e refl

  pub final-level : (d : ℕ) → deeper (in_product t (suc d) (final t (suc d))) sizes (framed d) ≡ deeper (in_whole t) sizes (framed d)
  final-level d =
      deeper-same (InTree in_frame sizes d) (in_product t (suc d) (final t (suc d))) (in_whole t) sizes sizes (framed d)
      (paths-InTree in_frame sizes frame-root d) (λ p i. refl)
      (λ p c i.
      product-longer t d (final t (suc d)) p c i.count
      ∙ ap (λ b. in_whole t p && b) (final-admits t.accesses p c d i.count)
      ∙ sym (grows-longer t.accesses (λ _. everyone t.accesses) p c))

  -- so its ranks are references there
  pub under-references : (d k : ℕ) → levels ≤ d → under_stream (suc d) (final t (suc d)) (Rank k) ≡ references (suc d) k
  under-references d k h =
      under-beneath d (final t (suc d)) (Rank k)
      ∙ ap (told (ranks t k)) (final-level d ∙ sym (own-level d h))
      ∙ told-same (ranks t k) (only_where (in_whole t) (ranks t k)) in_frame sizes (suc d) frame-root
      (λ p i. ap (λ b. cond b (ranks t k p) None) (sym (sym (own p (omega (arith, i.count, h))) ∙ i.passes)))
    where
      own : (q : List ℕ) → levels < length q → in_frame q ≡ in_whole t q
      own q l = let e : leb (length q) levels ≡ false = grind (arith, nat_tests, l) in rw e refl

  -- the shared levels have the joint lists
  pub shared-level : (d : ℕ) → d ≤ levels → framed d ≡ path_fibers (in_any ss) sizes d
  shared-level d h =
      paths-same in_frame (in_any ss) sizes sizes frame-root d
      (λ e p less i.
      ap (λ (cs : List ℕ). map (λ c. p ++ c ∷ []) cs)
      (filter-ext (λ c. in_frame (p ++ c ∷ [])) (λ c. in_any ss (p ++ c ∷ []))
      (λ c. shared (p ++ c ∷ []) (omega (arith, length_push p c, i.count, less, h))) (below (slice_index sizes (length p)))))
    where
      shared : (q : List ℕ) → length q ≤ levels → in_frame q ≡ in_any ss q
      shared q l = let e : leb (length q) levels ≡ true = grind (arith, nat_tests, l) in rw e refl

  -- values of an access, where the term has the list
  pub under-array : (k : ℕ) → AllFit t → length t.loops ≤ 200 → k < length t.accesses
      → Gives (ArrayKind (values_of (access_at t.accesses k).tensor)) (references (length t.loops) k ∷ [])
      (told (only_where (in_whole t) (factors t k)) (framed (length t.loops)) ∷ [])
  under-array k fit h inside = array-below t k fit inside in_frame frame-root h

-- ---- across

-- the ranks of a term at the joint lists are its references
pub across-references : (h : ℕ) (ss : List Summand) (last : ℕ) (t : TermData) (founded : in_any ss [] ≡ true) (d k : ℕ) → d ≤ h
    → take (suc last) ss ≡ ss → stream_at (across_shape ss last t d) (Rank k) ≡ references h ss founded t d k
across-references h ss last t founded d k l all =
    told-stream x (in_across ss last d) (loop_sizes t.loops) d
    ∙ ap (λ (ok : List ℕ → Bool). told x (path_fibers ok (loop_sizes t.loops) d)) (fun_ext same)
    ∙ ap (told x) (sym (shared-level h ss founded t d l))
  where
    x : Telling
    x = only_where (in_whole t) (ranks t k)

    same : (p : List ℕ) → in_across ss last d p ≡ in_any ss p
    same p = by_case (ltb (length p) d)
      where
        by_case : (b : Bool) → cond b (in_any ss p) (in_any (take (suc last) ss) p) ≡ in_any ss p
        by_case true = refl
        by_case false = ap (λ (xs : List Summand). in_any xs p) all
