-- A scan gives the coordinates and ranks of an access beneath any prefixes. Where its term lacks a prefix, no rank stands there
-- and nothing follows it.
use Rattle.std.specs.Prelude.{◌≡◌, ◌<◌, ◌≤◌, ℕ, zero, suc, Bool, true, false, cond, ◌&&◌, List, [], ◌∷◌, ◌++◌, length, get_or, slice_index, Some, None, refl}
use Rattle.std.specs.List.{filter}
use mathlib.Core.List.{map}
use Rattle.std.proofs.Common.{arith, sym, ◌∙◌, ap, subst}
use Rattle.sam_model.specs.Lists.{below, within}
use Rattle.sam_model.specs.Tensors.{stored_prefixes, rank_of}
use Rattle.sam_model.specs.Children.{Ranked, ranked, next_coordinates, children_under, children_of}
use Rattle.levels.specs.Reads.{children_at}
use Rattle.std.proofs.lemmas.List.{length-map}
use Rattle.levels.proofs.RankedLemmas.{ranked-children}
use Rattle.stream_tokens.specs.declared.Token.TheVariants.{Item}
use Rattle.stream_tokens.specs.Flat.{flat}
use Rattle.stream_tokens.specs.Shapes.{under, EachToken}
use Rattle.stream_tokens.proofs.Algebra.{map-map, map-same, under-ext}
use Rattle.block_core.specs.Ports.{Streams}
use Rattle.block_core.specs.Scan.{Children, coordinates_below, references_below}
use Rattle.block_core.specs.Kind.{ScanKind}
use Rattle.block_core.proofs.Given.{Gives, scan-over}
use Rattle.stream_model.specs.Grow.{next, path_fibers}
use Rattle.stream_model.specs.Terms.{Operand, TermData, restricted, access_at}
use Rattle.stream_model.specs.Trees.{admits, all_admit, in_product, in_whole}
use Rattle.stream_model.specs.Labels.{loop_sizes, only_where}
use Rattle.stream_model.specs.Masks.{only, levels_before, AllFit, final}
use Rattle.sam_model.proofs.Lists.{map-ext, filter-ext}
use Rattle.stream_model.proofs.Grown.{InTree, paths-InTree}
use Rattle.stream_model.proofs.Masks.{all_admit-only}
use Rattle.stream_model.proofs.Prefixes.{restricted-has, access-stored}
use Rattle.stream_model.proofs.Scans.{keep-length, restricted-within, next-admitted}
use Rattle.label_rules.proofs.laws.ItemStreams.{gives-same, tellings-below}
use Rattle.label_rules.proofs.laws.Ranks.{rank-below, at-rank}
use Rattle.label_rules.proofs.laws.ProductTrees.{AllMasked, rank_at, product_stream, product-beneath, product-final}
use Rattle.label_rules.proofs.laws.Following.{paths-shaped}
use Rattle.stream_model.specs.Tellings.{Prefixes, Telling, told, deeper, coordinate}
use Rattle.stream_model.proofs.Levels.{coordinates-deeper, numbers-deeper, told-flows}
use Rattle.stream_model.proofs.Products.{product-longer}
use Rattle.stream_model.specs.declared.labels.Attr.TheVariants.{Coordinate, Rank}
use Rattle.stream_tokens.specs.declared.Token.{Token}

-- the mask of access f alone
abbrev alone : TermData → ℕ → List Bool
alone t f = only (length t.accesses) f

-- the ranks of an access, as they are told
abbrev pub ranks : TermData → ℕ → Telling
ranks t f p = Some (rank_at t f p)

level_there : (mask : List Bool) (d : ℕ) → get_or mask d false ≡ true → levels_before mask d < levels_before mask (length mask)
level_there [] d h = absurd (cc)
level_there (true ∷ mask) zero h = omega arith
level_there (false ∷ mask) zero h = absurd (cc)
level_there (true ∷ mask) (suc d) h = let r = level_there mask d h in omega (arith, r)
level_there (false ∷ mask) (suc d) h = level_there mask d h

module _ (t : TermData) (f d : ℕ) (fit : AllFit t) (inside : f < length t.accesses)
    (has : get_or (access_at t.accesses f).has d false ≡ true) where
  abbrev a : Operand
  a = access_at t.accesses f

  abbrev level : ℕ
  level = levels_before a.has d

  abbrev children : Children
  children = children_of a.tensor (suc level)

  abbrev sizes : List ℕ
  sizes = loop_sizes t.loops

  level_inside : AllMasked t → level < length a.tensor.sizes
  level_inside masked =
      let long : length a.tensor.sizes ≡ levels_before a.has (length a.has) =
      ap (λ (xs : List ℕ). length xs) (sym (fit f inside)) ∙ keep-length a.has (loop_sizes t.loops)
      ∙ ap (levels_before a.has) (length-map t.loops (λ l. l.0) ∙ sym (masked f inside)) in
      let there : level < levels_before a.has (length a.has) = level_there a.has d has in
      omega (arith, long, there)

  -- ---- a prefix that the term has

  module _ (p : List ℕ) (count : length p ≡ d) (in_range : within sizes p ≡ true) (there : in_whole t p ≡ true) where
    stored_long : length (restricted a p) ≡ level
    stored_long = keep-length a.has p ∙ ap (levels_before a.has) count

    rank_inside : rank_at t f p < length children
    rank_inside =
        let r =
        rank-below a.tensor (restricted a p) (restricted-within t f p fit inside in_range)
        (access-stored t p f there inside) in
        let n : length children ≡ length (stored_prefixes a.tensor (length (restricted a p))) =
        length-map (stored_prefixes a.tensor level) (children_under a.tensor)
        ∙ ap (λ (n : ℕ). length (stored_prefixes a.tensor n)) (sym stored_long) in
        omega (arith, r, n)

    children_there : get_or children (rank_at t f p) [] ≡ children_under a.tensor (restricted a p)
    children_there =
        ap (λ (n : ℕ). get_or (map (children_under a.tensor) (stored_prefixes a.tensor n)) (rank_at t f p) []) (sym stored_long)
        ∙ at-rank (children_under a.tensor) [] a.tensor (restricted a p) (restricted-within t f p fit inside in_range)
        (access-stored t p f there inside)

    here : get_or a.has (length p) false ≡ true
    here = ap (λ (n : ℕ). get_or a.has n false) count ∙ has

    next_there : next_coordinates a.tensor (restricted a p) ≡ next (in_product t (suc d) (alone t f)) sizes p
    next_there =
        next-admitted t f p fit inside here there
        ∙ filter-ext (admits a p) (λ c. in_product t (suc d) (alone t f) (p ++ c ∷ []))
        (λ c.
        sym (all_admit-only t.accesses f p c inside)
        ∙ sym (product-longer t d (alone t f) p c count ∙ ap (λ b. b && all_admit (alone t f) t.accesses p c) there))
        (below (slice_index sizes (length p)))

    coordinates_there : coordinates_below children (ranks t f p) ≡ next (in_product t (suc d) (alone t f)) sizes p
    coordinates_there =
        ap (λ (cs : List (ℕ × ℕ)). map (λ c. c.0) cs) children_there
        ∙ map-map {B = ℕ × ℕ} (λ c. c.0) (λ c. (c, rank_of a.tensor (restricted a p ++ c ∷ [])))
        (next_coordinates a.tensor (restricted a p))
        ∙ map-same (next_coordinates a.tensor (restricted a p))
        ∙ next_there

    references_there : references_below children (ranks t f p)
        ≡ map (λ c. rank_at t f (p ++ c ∷ [])) (next (in_product t (suc d) (alone t f)) sizes p)
    references_there =
        ap (λ (cs : List (ℕ × ℕ)). map (λ c. c.1) cs) children_there
        ∙ map-map {B = ℕ × ℕ} (λ c. c.1) (λ c. (c, rank_of a.tensor (restricted a p ++ c ∷ [])))
        (next_coordinates a.tensor (restricted a p))
        ∙ map-ext (λ c. rank_of a.tensor (restricted a p ++ c ∷ [])) (λ c. rank_at t f (p ++ c ∷ []))
        (λ c. ap (rank_of a.tensor) (sym (restricted-has a p c here))) (next_coordinates a.tensor (restricted a p))
        ∙ ap (map (λ c. rank_at t f (p ++ c ∷ []))) next_there

  -- ---- any prefix

  -- nothing follows one that the term lacks
  none_there : (p : List ℕ) → length p ≡ d → in_whole t p ≡ false → next (in_product t (suc d) (alone t f)) sizes p ≡ []
  none_there p count lacks =
      filter-ext (λ c. in_product t (suc d) (alone t f) (p ++ c ∷ [])) (λ _. false)
      (λ c. product-longer t d (alone t f) p c count ∙ ap (λ b. b && all_admit (alone t f) t.accesses p c) lacks)
      (below (slice_index sizes (length p)))
      ∙ nothing (below (slice_index sizes (length p)))
    where
      nothing : (cs : List ℕ) → filter (λ _. false) cs ≡ []
      nothing [] = refl
      nothing (c ∷ cs) = nothing cs

  coordinates_follow : (p : List ℕ) → length p ≡ d → within sizes p ≡ true
      → coordinates_below children (only_where (in_whole t) (ranks t f) p) ≡ next (in_product t (suc d) (alone t f)) sizes p
  coordinates_follow p count in_range = by_case (in_whole t p) refl
    where
      by_case : (b : Bool) → in_whole t p ≡ b
          → coordinates_below children (cond b (ranks t f p) None) ≡ next (in_product t (suc d) (alone t f)) sizes p
      by_case true e = coordinates_there p count in_range e
      by_case false e = sym (none_there p count e)

  references_follow : (p : List ℕ) → length p ≡ d → within sizes p ≡ true
      → references_below children (only_where (in_whole t) (ranks t f) p)
      ≡ map (λ c. rank_at t f (p ++ c ∷ [])) (next (in_product t (suc d) (alone t f)) sizes p)
  references_follow p count in_range = by_case (in_whole t p) refl
    where
      by_case : (b : Bool) → in_whole t p ≡ b
          → references_below children (cond b (ranks t f p) None)
          ≡ map (λ c. rank_at t f (p ++ c ∷ [])) (next (in_product t (suc d) (alone t f)) sizes p)
      by_case true e = references_there p count in_range e
      by_case false e = sym (ap (map (λ c. rank_at t f (p ++ c ∷ []))) (none_there p count e))

  -- ---- the law

  -- below the prefixes of any tree
  pub scan-below : (ok : List ℕ → Bool) → ok [] ≡ true → d ≤ 200
      → Gives (ScanKind children) (told (only_where (in_whole t) (ranks t f)) (path_fibers ok sizes d) ∷ [])
      (told coordinate (deeper (in_product t (suc d) (alone t f)) sizes (path_fibers ok sizes d))
      ∷ told (ranks t f) (deeper (in_product t (suc d) (alone t f)) sizes (path_fibers ok sizes d)) ∷ [])
  scan-below ok root h =
      gives-same (ScanKind children) _ _ _ _ refl outs_are
      (scan-over children (only_where (in_whole t) (ranks t f)) fs (paths-shaped ok sizes d)
      (tellings-below (length children) (only_where (in_whole t) (ranks t f)) (InTree ok sizes d) inside_all fs each)
      (told-flows (only_where (in_whole t) (ranks t f)) ok sizes d h, tt))
    where
      fs : Prefixes
      fs = path_fibers ok sizes d

      each : EachToken (InTree ok sizes d) fs
      each = paths-InTree ok sizes root d

      inside_all : (p : List ℕ) → InTree ok sizes d p → (n : ℕ) → only_where (in_whole t) (ranks t f) p ≡ Some n → n < length children
      inside_all p i n = by_case (in_whole t p) refl
        where
          by_case : (b : Bool) → in_whole t p ≡ b → cond b (ranks t f p) None ≡ Some n → n < length children
          by_case true e same =
              let l = rank_inside p i.count i.in_range e in
              let k : rank_at t f p ≡ n = cc in
              omega (arith, l, k)
          by_case false e same = absurd (cc)

      outs_are : flat Item (under (λ p. coordinates_below children (only_where (in_whole t) (ranks t f) p)) fs)
          ∷ flat Item (under (λ p. references_below children (only_where (in_whole t) (ranks t f) p)) fs) ∷ []
          ≡ told coordinate (deeper (in_product t (suc d) (alone t f)) sizes fs)
          ∷ told (ranks t f) (deeper (in_product t (suc d) (alone t f)) sizes fs) ∷ []
      outs_are =
          rw (
            under-ext (InTree ok sizes d) (λ p. coordinates_below children (only_where (in_whole t) (ranks t f) p))
                (next (in_product t (suc d) (alone t f)) sizes)
                (λ p i. coordinates_follow p i.count i.in_range) fs each,
            under-ext (InTree ok sizes d) (λ p. references_below children (only_where (in_whole t) (ranks t f) p))
                (λ p. map (λ c. rank_at t f (p ++ c ∷ [])) (next (in_product t (suc d) (alone t f)) sizes p))
                (λ p i. references_follow p i.count i.in_range) fs each,
            coordinates-deeper (in_product t (suc d) (alone t f)) sizes fs,
            numbers-deeper (rank_at t f) (in_product t (suc d) (alone t f)) sizes fs,
          ) refl

-- with the children that are read of the stored tensor
pub scan-law : (t : TermData) (f d : ℕ) (r : Ranked) → AllFit t → AllMasked t → r ≡ ranked (access_at t.accesses f).tensor
    → f < length t.accesses → get_or (access_at t.accesses f).has d false ≡ true
    → (ok : List ℕ → Bool) → ok [] ≡ true → d ≤ 200
    → Gives (ScanKind (children_at r (suc (levels_before (access_at t.accesses f).has d))))
    (told (only_where (in_whole t) (ranks t f)) (path_fibers ok (loop_sizes t.loops) d) ∷ [])
    (told coordinate (deeper (in_product t (suc d) (only (length t.accesses) f)) (loop_sizes t.loops) (path_fibers ok (loop_sizes t.loops) d))
    ∷ told (ranks t f) (deeper (in_product t (suc d) (only (length t.accesses) f)) (loop_sizes t.loops) (path_fibers ok (loop_sizes t.loops) d)) ∷ [])
scan-law t f d r fit masked is_r inside has ok root h =
    subst (λ (c : Children). Gives (ScanKind c) ins outs)
    (sym (ap (λ (r : Ranked). children_at r (suc (levels_before (access_at t.accesses f).has d))) is_r
    ∙ ranked-children (access_at t.accesses f).tensor (levels_before (access_at t.accesses f).has d)
    (level_inside t f d fit inside has masked)))
    (scan-below t f d fit inside has ok root h)
  where
    fs : Prefixes
    fs = path_fibers ok (loop_sizes t.loops) d

    ins : Streams
    ins = told (only_where (in_whole t) (ranks t f)) fs ∷ []

    outs : Streams
    outs =
        told coordinate (deeper (in_product t (suc d) (alone t f)) (loop_sizes t.loops) fs)
        ∷ told (ranks t f) (deeper (in_product t (suc d) (alone t f)) (loop_sizes t.loops) fs) ∷ []

-- ---- in product trees

loop_there : (mask : List Bool) (d : ℕ) → get_or mask d false ≡ true → d < length mask
loop_there [] d h = absurd (cc)
loop_there (b ∷ mask) zero h = omega arith
loop_there (b ∷ mask) (suc d) h = let r = loop_there mask d h in omega (arith, r)

-- a scan of the next level of access f gives the coordinates that it lets follow, and their ranks
pub scan-gives : (t : TermData) (f d : ℕ) (r : Ranked) → AllFit t → AllMasked t → length t.loops < 9
    → r ≡ ranked (access_at t.accesses f).tensor
    → f < length t.accesses → get_or (access_at t.accesses f).has d false ≡ true
    → Gives (ScanKind (children_at r (suc (levels_before (access_at t.accesses f).has d))))
    (product_stream t d (final t d) (Rank f) ∷ [])
    (product_stream t (suc d) (only (length t.accesses) f) Coordinate
    ∷ product_stream t (suc d) (only (length t.accesses) f) (Rank f) ∷ [])
scan-gives t f d r fit masked few is_r inside has =
    gives-same (ScanKind (children_at r (suc (levels_before (access_at t.accesses f).has d)))) _ _ _ _
    (ap (λ (s : List Token). s ∷ []) (sym (product-final t d (Rank f) (ranks t f) (λ p. refl))))
    (rw (product-beneath t d (alone t f) Coordinate, product-beneath t d (alone t f) (Rank f)) refl)
    (scan-law t f d r fit masked is_r inside has (in_whole t) refl
    (omega (arith, few, masked f inside, loop_there (access_at t.accesses f).has d has)))
