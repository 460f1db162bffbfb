-- An array gives the values of an access after the last loop, from its ranks, beneath any prefixes.
use Rattle.std.specs.Prelude.{◌≡◌, ◌<◌, ◌≤◌, ℕ, Bool, true, false, cond, List, [], ◌∷◌, length, Some, None, refl}
use mathlib.Core.List.{map}
use Rattle.std.proofs.Common.{arith, sym, ◌∙◌, ap, subst}
use Rattle.sam_model.specs.Lists.{within}
use Rattle.sam_model.specs.Tensors.{Stored, is_stored, stored_prefixes, value_at}
use Rattle.sam_model.specs.Children.{values_of, Ranked, ranked}
use Rattle.std.proofs.lemmas.List.{length-map}
use Rattle.stream_tokens.specs.declared.Token.{Token}
use Rattle.stream_tokens.specs.Shapes.{EachToken}
use Rattle.block_core.specs.Change.{on_item, referenced_value}
use Rattle.block_core.specs.Kind.{ArrayKind}
use Rattle.block_core.proofs.Given.{Gives, array-gives}
use Rattle.stream_model.specs.Grow.{path_fibers}
use Rattle.stream_model.specs.Terms.{TermData, restricted, access_at}
use Rattle.stream_model.specs.Trees.{in_whole}
use Rattle.stream_model.specs.Labels.{loop_sizes, only_where}
use Rattle.stream_model.specs.Masks.{levels_before, AllFit, final}
use Rattle.stream_model.proofs.Grown.{InTree, paths-InTree}
use Rattle.stream_model.proofs.Prefixes.{access-stored}
use Rattle.stream_model.proofs.Scans.{keep-length, restricted-within}
use Rattle.label_rules.proofs.laws.ItemStreams.{gives-same, tellings-below, tellings-changed, on_leaf}
use Rattle.label_rules.proofs.laws.Ranks.{rank-below, at-rank}
use Rattle.label_rules.proofs.laws.ProductTrees.{rank_at, factor_at, product_stream, product-final}
use Rattle.stream_model.specs.Tellings.{Prefixes, Telling, told}
use Rattle.stream_model.proofs.Levels.{told-flows, told-same}
use Rattle.label_rules.proofs.laws.ScanLaw.{ranks}
use Rattle.stream_model.specs.declared.labels.Attr.TheVariants.{Rank, FactorValue}

abbrev pub factors : TermData → ℕ → Telling
factors t f p = Some (factor_at t f p)

module _ (t : TermData) (f : ℕ) (fit : AllFit t) (inside : f < length t.accesses) where
  abbrev tensor : Stored
  tensor = (access_at t.accesses f).tensor

  abbrev loops : ℕ
  loops = length t.loops

  module _ (p : List ℕ) (count : length p ≡ loops) (in_range : within (loop_sizes t.loops) p ≡ true) (there : in_whole t p ≡ true) where
    abbrev place : List ℕ
    place = restricted (access_at t.accesses f) p

    place_within : within tensor.sizes place ≡ true
    place_within = restricted-within t f p fit inside in_range

    place_stored : is_stored tensor place ≡ true
    place_stored = access-stored t p f there inside

    place_full : length place ≡ length tensor.sizes
    place_full =
        keep-length (access_at t.accesses f).has p
        ∙ ap (levels_before (access_at t.accesses f).has) (count ∙ sym (length-map t.loops (λ l. l.0)))
        ∙ sym (keep-length (access_at t.accesses f).has (loop_sizes t.loops))
        ∙ ap (λ (sizes : List ℕ). length sizes) (fit f inside)

    values_there : values_of tensor ≡ map (value_at tensor) (stored_prefixes tensor (length place))
    values_there = ap (λ (n : ℕ). map (value_at tensor) (stored_prefixes tensor n)) (sym place_full)

    rank_inside : rank_at t f p < length (values_of tensor)
    rank_inside =
        let r : rank_at t f p < length (stored_prefixes tensor (length place)) =
        rank-below tensor place place_within place_stored in
        let n : length (values_of tensor) ≡ length (stored_prefixes tensor (length place)) =
        ap (λ (vs : List ℕ). length vs) values_there ∙ length-map (stored_prefixes tensor (length place)) (value_at tensor) in
        omega (arith, r, n)

    value_there : referenced_value (values_of tensor) (rank_at t f p) ≡ factor_at t f p
    value_there =
        ap (λ (vs : List ℕ). referenced_value vs (rank_at t f p)) values_there
        ∙ at-rank (value_at tensor) 0 tensor place place_within place_stored

  -- an array tells the values of an access, where its term has the prefix
  pub array-below : (ok : List ℕ → Bool) → ok [] ≡ true → loops ≤ 200
      → Gives (ArrayKind (values_of tensor)) (told (only_where (in_whole t) (ranks t f)) (path_fibers ok (loop_sizes t.loops) loops) ∷ [])
      (told (only_where (in_whole t) (factors t f)) (path_fibers ok (loop_sizes t.loops) loops) ∷ [])
  array-below ok root h =
      gives-same (ArrayKind values) _ _ _ _ refl (ap (λ (s : List Token). s ∷ []) values_are)
      (array-gives values (told x fs)
      (tellings-below (length values) x (InTree ok sizes loops) all_inside fs each)
      (told-flows x ok sizes loops h, tt))
    where
      values : List ℕ
      values = values_of tensor

      sizes : List ℕ
      sizes = loop_sizes t.loops

      x : Telling
      x = only_where (in_whole t) (ranks t f)

      fs : Prefixes
      fs = path_fibers ok sizes loops

      each : EachToken (InTree ok sizes loops) fs
      each = paths-InTree ok sizes root loops

      all_inside : (p : List ℕ) → InTree ok sizes loops p → (n : ℕ) → x p ≡ Some n → n < length values
      all_inside p i n = by_case (in_whole t p) refl
        where
          by_case : (b : Bool) → in_whole t p ≡ b → cond b (ranks t f p) None ≡ Some n → n < length values
          by_case true e same =
              let l = rank_inside p i.count i.in_range e in
              let k : rank_at t f p ≡ n = cc in
              omega (arith, l, k)
          by_case false e same = absurd (cc)

      one : (p : List ℕ) → InTree ok sizes loops p → on_leaf (referenced_value values) (x p) ≡ only_where (in_whole t) (factors t f) p
      one p i = by_case (in_whole t p) refl
        where
          by_case : (b : Bool) → in_whole t p ≡ b → on_leaf (referenced_value values) (cond b (ranks t f p) None) ≡ cond b (factors t f p) None
          by_case true e = ap Some (value_there p i.count i.in_range e)
          by_case false e = refl

      values_are : map (on_item (referenced_value values)) (told x fs) ≡ told (only_where (in_whole t) (factors t f)) fs
      values_are =
          tellings-changed (referenced_value values) x fs
          ∙ told-same (λ p. on_leaf (referenced_value values) (x p)) (only_where (in_whole t) (factors t f)) ok sizes loops root one

-- ---- in product trees

-- after the last loop the values of access f stand at its ranks
pub array-law : (t : TermData) (f : ℕ) (r : Ranked) → AllFit t → length t.loops < 9 → r ≡ ranked (access_at t.accesses f).tensor
    → f < length t.accesses
    → Gives (ArrayKind r.values)
    (product_stream t (length t.loops) (final t (length t.loops)) (Rank f) ∷ [])
    (product_stream t (length t.loops) (final t (length t.loops)) (FactorValue f) ∷ [])
array-law t f r fit few is_r inside =
    let m = length t.loops in
    subst (λ (vs : List ℕ). Gives (ArrayKind vs) (product_stream t m (final t m) (Rank f) ∷ [])
    (product_stream t m (final t m) (FactorValue f) ∷ []))
    (ap (λ (s : Ranked). s.values) (sym is_r))
    (gives-same (ArrayKind (values_of (access_at t.accesses f).tensor)) _ _ _ _
    (ap (λ (s : List Token). s ∷ []) (sym (product-final t m (Rank f) (ranks t f) (λ p. refl))))
    (ap (λ (s : List Token). s ∷ []) (sym (product-final t m (FactorValue f) (factors t f) (λ p. refl))))
    (array-below t f fit inside (in_whole t) refl (omega (arith, few))))
