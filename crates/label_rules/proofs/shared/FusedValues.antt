-- What is left between the laws of fused trees: products where a term has a list, the first term alone, and values of whole tuples.
use Rattle.std.specs.Prelude.{◌≡◌, ◌<◌, ◌≤◌, ℕ, suc, Bool, true, false, cond, List, [], ◌∷◌, ◌++◌, length, take, slice_index, Some, None, refl}
use mathlib.Core.List.{map}
use Rattle.std.proofs.Math.Path.{fun_ext}
use Rattle.std.proofs.Common.{arith, sym, ◌∙◌, ap}
use Rattle.stream_tokens.specs.declared.Token.{Token}
use Rattle.stream_tokens.specs.Nest.{leaf}
use Rattle.stream_tokens.specs.Flat.{flat}
use Rattle.stream_tokens.proofs.Algebra.{map-map, under-ext}
use Rattle.block_core.specs.Ports.{Streams}
use Rattle.block_core.specs.Arithmetic.{Times, combined_leaf}
use Rattle.stream_model.specs.declared.labels.Attr.{Attr}
use Rattle.stream_model.specs.declared.labels.Attr.TheVariants.{Coordinate, Rank}
use Rattle.stream_model.specs.Grow.{next, path_fibers}
use Rattle.stream_model.specs.Terms.{TermData, Summand, summand_at, whole_product}
use Rattle.stream_model.specs.Trees.{in_whole, value_reduced}
use Rattle.stream_model.specs.Labels.{loop_sizes, only_where, across_shape, under_shape, stream_at, token}
use Rattle.stream_model.specs.Masks.{final}
use Rattle.sam_model.proofs.Lists.{or-false, map-ext, map-ext-each}
use Rattle.stream_model.proofs.Grown.{InTree, paths-InTree, each-next}
use Rattle.stream_model.proofs.Reduced.{value-full}
use Rattle.stream_model.specs.Tellings.{Telling, told, deeper, coordinate}
use Rattle.stream_model.specs.Fused.{in_any}
use Rattle.stream_model.proofs.Levels.{told-deeper, told-same}
use Rattle.label_rules.proofs.laws.ScanLaw.{ranks}
use Rattle.label_rules.proofs.shared.UnderLaws.{framed, in_frame, frame-root, under_stream}
use Rattle.label_rules.proofs.shared.AcrossLaws.{Sized, across_side, under_side, across_beneath, under_level}

-- a product is told where both factors are
pub product-where : (has : List ℕ → Bool) (x y : Telling) (p : List ℕ)
    → combined_leaf Times (only_where has x p) (only_where has y p) ≡ only_where has (λ q. combined_leaf Times (x q) (y q)) p
product-where has x y p = by_case (has p)
  where
    by_case : (b : Bool) → combined_leaf Times (cond b (x p) None) (cond b (y p) None) ≡ cond b (combined_leaf Times (x p) (y p)) None
    by_case true = refl
    by_case false = refl

-- what is told of the prefixes one longer, if it is the same of each that passes
pub deeper-told : (x y : Telling) (ok own : List ℕ → Bool) (sizes : List ℕ) (d : ℕ) → ok [] ≡ true
    → ((q : List ℕ) → own q ≡ true → x q ≡ y q)
    → told x (deeper own sizes (path_fibers ok sizes d)) ≡ told y (deeper own sizes (path_fibers ok sizes d))
deeper-told x y ok own sizes d root h =
    told-deeper x own sizes (path_fibers ok sizes d)
    ∙ ap (flat leaf)
    (under-ext (InTree ok sizes d) (λ p. map (λ c. x (p ++ c ∷ [])) (next own sizes p)) (λ p. map (λ c. y (p ++ c ∷ [])) (next own sizes p))
    (λ p i.
    map-ext-each (λ c. (own (p ++ c ∷ []) ≡ true) × (c < slice_index sizes (length p))) (λ c. x (p ++ c ∷ [])) (λ c. y (p ++ c ∷ []))
    (λ c e. h (p ++ c ∷ []) e.0) (next own sizes p) (each-next own sizes p)) (path_fibers ok sizes d) (paths-InTree ok sizes root d))
    ∙ sym (told-deeper y own sizes (path_fibers ok sizes d))

-- the values of whole tuples, where nothing is reduced
pub whole-values : (levels : ℕ) (ss : List Summand) (founded : in_any ss [] ≡ true) (t : TermData)
    → told (only_where (in_whole t) (λ p. Some (whole_product t p))) (framed levels ss founded t (length t.loops))
    ≡ told (value_reduced t 0) (framed levels ss founded t (length t.loops))
whole-values levels ss founded t =
    told-same (only_where (in_whole t) (λ p. Some (whole_product t p))) (value_reduced t 0) (in_frame levels ss founded t) (loop_sizes t.loops) (length t.loops)
    (frame-root levels ss founded t) (λ p i. sym (value-full t p i.count))

first_only : (ss : List Summand) (p : List ℕ) → 0 < length ss → in_any (take 1 ss) p ≡ in_whole (summand_at ss 0).term p
first_only [] p h = absurd (omega (arith, h))
first_only (s ∷ ss) p h = or-false (in_whole s.term p)

-- Before the first union, the first term's streams are those of the terms up to it.
pub first-across : (h : ℕ) (ss : List Summand) (founded : in_any ss [] ≡ true) (sizes : List ℕ)
    (sized : (i : ℕ) → i < length ss → Sized sizes h (summand_at ss i).term) (d : ℕ) (shared : suc d ≤ h) (few : suc d ≤ 200) (ks : List ℕ)
    → 0 < length ss
    → under_side h ss founded sizes sized d shared few 0 ks ≡ across_side h ss founded sizes sized d shared few 0 (map (λ k. (0, k)) ks)
first-across h ss founded sizes sized d shared few ks some =
    rw (same Coordinate coordinate (λ p. refl) (λ p e. refl), map-map across (λ (k : ℕ). (0, k)) ks)
    (ap (λ (s : Streams). stream_at (across_shape ss 0 t (suc d)) Coordinate ∷ s)
    (map-ext (λ k. under_stream h ss founded t (suc d) (final t (suc d)) (Rank k)) (λ k. stream_at (across_shape ss 0 t (suc d)) (Rank k))
    (λ k. same (Rank k) (ranks t k) (λ p. refl) (λ p e. ap (λ b. cond b (ranks t k p) None) (sym e))) ks))
  where
    t : TermData
    t = (summand_at ss 0).term

    across : ℕ × ℕ → List Token
    across r = stream_at (across_shape ss 0 (summand_at ss r.0).term (suc d)) (Rank r.1)

    same : (a : Attr) (x : Telling) → ((p : List ℕ) → token (under_shape h ss t (suc d) (final t (suc d))) a p ≡ x p)
        → ((p : List ℕ) → in_whole t p ≡ true → x p ≡ token (across_shape ss 0 t (suc d)) a p)
        → under_stream h ss founded t (suc d) (final t (suc d)) a ≡ stream_at (across_shape ss 0 t (suc d)) a
    same a x e f =
        under_level h ss founded sizes sized d shared few 0 a some
        ∙ deeper-told (token (under_shape h ss t (suc d) (final t (suc d))) a) (token (across_shape ss 0 t (suc d)) a)
        (in_any ss) (in_whole t) sizes d founded (λ q k. e q ∙ f q k)
        ∙ ap (λ (own : List ℕ → Bool). told (token (across_shape ss 0 t (suc d)) a) (deeper own sizes (path_fibers (in_any ss) sizes d)))
        (fun_ext (λ q. sym (first_only ss q some)))
        ∙ sym (across_beneath h ss founded sizes sized d shared few 0 0 a some)
