-- What the writers leave of the streams of pruned trees: the tree of each level may be pruned from another level on, and the arrays
-- are those of one tree, which is pruned from the first level on.
use Rattle.std.specs.Prelude.{◌≡◌, ◌<◌, ◌≤◌, ◌⊎◌, ℕ, zero, suc, Bool, true, false, cond, ◌||◌, List, [], ◌∷◌, ◌++◌, length, take, slice_index, ltb, is_some, refl}
use Rattle.std.specs.List.{filter}
use mathlib.Core.List.{map}
use Rattle.std.proofs.Common.{arith, sym, ◌∙◌, ap, inl, inr}
use Rattle.std.proofs.lemmas.Bool.{and_parts, cases_lt}
use Rattle.std.proofs.lemmas.List.{length_push, length-take-le}
use Rattle.stream_tokens.specs.Nest.{Leaf}
use Rattle.sam_model.specs.Lists.{below, tuples}
use Rattle.block_core.specs.DropFiber.{is_nonempty}
use Rattle.block_core.specs.Written.{segs_of, crds_of}
use Rattle.stream_model.specs.declared.labels.Attr.TheVariants.{Coordinate}
use Rattle.stream_model.specs.Grow.{next}
use Rattle.stream_model.specs.Terms.{no_term}
use Rattle.stream_model.specs.Trees.{begins_value, pruned_from}
use Rattle.stream_model.specs.Labels.{Shape, no_part, last, stream_at}
use Rattle.sam_model.proofs.Lists.{Each-range, map-ext-each, filter-ext, filter-ext-each, filter-none, list_any-mono, not-true}
use Rattle.sam_model.proofs.Tuples.{tuples-long}
use Rattle.stream_model.proofs.Flat.{ClosedUnder, flat-paths}
use Rattle.stream_model.proofs.Pruned.{begins-next}
use Rattle.stream_model.proofs.Sides.{begins-shorter}
use Rattle.label_rules.proofs.laws.DropLaws.{early, late}
use Rattle.custard_lower.proofs.written.WrittenPlaces.{ends_of}
use Rattle.custard_lower.proofs.written.WrittenLevels.{prefixes_at, level_ends, level_coordinates}
use Rattle.custard_lower.proofs.written.WrittenStreams.{lists_beneath, GoesOn, first-ends, later-ends, full-ends, coordinates-listed}

-- ---- prefixes outside a closed tree

-- no coordinates follow them
no_next : (ok : List ℕ → Bool) (sizes p : List ℕ) → ClosedUnder ok sizes → ok p ≡ false → next ok sizes p ≡ []
no_next ok sizes p closed e =
    let size : ℕ = slice_index sizes (length p) in
    filter-none size (λ c. ok (p ++ c ∷ [])) (λ c h. closed p c h e) (below size) (Each-range 0 size size (omega arith))

-- so they add nothing to the lists beneath
beneath_within : (ok : List ℕ → Bool) (sizes : List ℕ) → ClosedUnder ok sizes → (ps : List (List ℕ))
    → lists_beneath ok sizes (filter ok ps) ≡ lists_beneath ok sizes ps
beneath_within ok sizes closed [] = refl
beneath_within ok sizes closed (p ∷ ps) = by_case (ok p) refl (beneath_within ok sizes closed ps)
  where
    by_case : (b : Bool) → ok p ≡ b → lists_beneath ok sizes (filter ok ps) ≡ lists_beneath ok sizes ps
        → lists_beneath ok sizes (cond b (p ∷ filter ok ps) (filter ok ps)) ≡ lists_beneath ok sizes (p ∷ ps)
    by_case true e r = ap (λ (xss : List (List ℕ)). cond (is_nonempty (next ok sizes p)) (next ok sizes p ∷ xss) xss) r
    by_case false e r =
        r ∙ ap (λ (xs : List ℕ). filter is_nonempty (xs ∷ map (next ok sizes) ps)) (sym (no_next ok sizes p closed e))

-- ---- pruned trees

no_size : (sizes : List ℕ) (n : ℕ) → length sizes ≤ n → slice_index sizes n ≡ 0
no_size [] n h = refl
no_size (s ∷ sizes) zero h = absurd (omega (arith, h))
no_size (s ∷ sizes) (suc n) h = no_size sizes n (omega (arith, h))

-- a closed tree whose prefixes with values begin with its prefixes
module _ (has : List ℕ → Bool) (value : List ℕ → Leaf) (sizes : List ℕ) (root : has [] ≡ true)
    (holds : (p q : List ℕ) → length p ≤ length sizes → is_some (value (p ++ q)) ≡ true → has p ≡ true) (closed : ClosedUnder has sizes) where
  -- pruned from length f on
  abbrev pub pruned_at : ℕ → List ℕ → Bool
  pruned_at f p = pruned_from has value sizes f p

  abbrev pub pruned_shape : ℕ → ℕ → Shape
  pruned_shape f d = record {
    ok = pruned_at f;
    sizes = sizes;
    depth = d;
    has = λ _. true;
    term = no_term;
    value = value;
    sides = λ _. no_part;
  }

  abbrev begins : List ℕ → Bool
  begins p = begins_value value sizes p

  early_is : (f : ℕ) (p : List ℕ) → length p < f → pruned_at f p ≡ has p
  early_is f p l = early has value sizes root holds f p l

  late_is : (f : ℕ) (p : List ℕ) → f ≤ length p → length p ≤ length sizes → pruned_at f p ≡ begins p
  late_is f p l m = late has value sizes root holds f p l m

  pruned_root : (f : ℕ) → 0 < f → pruned_at f [] ≡ true
  pruned_root f h = early_is f [] h ∙ root

  shorter : (f : ℕ) (p : List ℕ) (c : ℕ) → c < slice_index sizes (length p) → pruned_at f (p ++ c ∷ []) ≡ true → pruned_at f p ≡ true
  shorter f p c l e = by_place (cases_lt (length p) f) (cases_lt (length p) (length sizes)) (has_it (has p) refl)
    where
      whole : (has (p ++ c ∷ []) ≡ true) × ((ltb (length (p ++ c ∷ [])) f || begins (p ++ c ∷ [])) ≡ true)
      whole = and_parts (has (p ++ c ∷ [])) (ltb (length (p ++ c ∷ [])) f || begins (p ++ c ∷ [])) e

      has_it : (b : Bool) → has p ≡ b → has p ≡ true
      has_it true k = k
      has_it false k = let no = closed p c l k in let yes = whole.0 in absurd (cc)

      by_place : (length p < f) ⊎ (f ≤ length p) → (length p < length sizes) ⊎ (length sizes ≤ length p) → has p ≡ true → pruned_at f p ≡ true
      by_place (inl k) m r = early_is f p k ∙ r
      by_place (inr k) (inl m) r =
          late_is f p k (omega (arith, m))
          ∙ begins-shorter value sizes p c m l
          (sym (late_is f (p ++ c ∷ []) (omega (arith, length_push p c, k)) (omega (arith, length_push p c, m))) ∙ e)
      by_place (inr k) (inr m) r = absurd (omega (arith, l, no_size sizes (length p) m))

  pruned_closed : (f : ℕ) → ClosedUnder (pruned_at f) sizes
  pruned_closed f p c l e = not-true (pruned_at f (p ++ c ∷ [])) (λ k. sym e ∙ shorter f p c l k)

  -- from the level of pruning on a tree has the prefixes that begin a value
  begun : (f d : ℕ) → 0 < f → f ≤ d → d ≤ length sizes → prefixes_at (pruned_at f) sizes d ≡ filter begins (tuples (take d sizes))
  begun f d h k m =
      flat-paths (pruned_at f) sizes (pruned_root f h) (pruned_closed f) d m
      ∙ filter-ext-each (λ p. length p ≡ length (take d sizes)) (pruned_at f) begins
      (λ p e. let n = length-take-le d sizes m in late_is f p (omega (arith, e, k, n)) (omega (arith, e, m, n))) (tuples (take d sizes)) (tuples-long (take d sizes))

  -- which are those of the tree that is pruned from the first level on
  pub same-prefixes : (f d : ℕ) → 0 < f → f ≤ d → d ≤ length sizes → prefixes_at (pruned_at f) sizes d ≡ prefixes_at (pruned_at 1) sizes d
  same-prefixes f d h k m = begun f d h k m ∙ sym (begun 1 d (omega arith) (omega (arith, h, k)) m)

  -- there the same coordinates follow
  same_next : (f : ℕ) (p : List ℕ) → f ≤ suc (length p) → next (pruned_at f) sizes p ≡ next (pruned_at 1) sizes p
  same_next f p h = by_place (cases_lt (length p) (length sizes))
    where
      by_place : (length p < length sizes) ⊎ (length sizes ≤ length p) → next (pruned_at f) sizes p ≡ next (pruned_at 1) sizes p
      by_place (inl m) =
          filter-ext (λ c. pruned_at f (p ++ c ∷ [])) (λ c. pruned_at 1 (p ++ c ∷ []))
          (λ c.
          late_is f (p ++ c ∷ []) (omega (arith, length_push p c, h)) (omega (arith, length_push p c, m))
          ∙ sym (late_is 1 (p ++ c ∷ []) (omega (arith, length_push p c)) (omega (arith, length_push p c, m))))
          (below (slice_index sizes (length p)))
      by_place (inr m) =
          ap (λ (n : ℕ). filter (λ c. pruned_at f (p ++ c ∷ [])) (below n)) (no_size sizes (length p) m)
          ∙ sym (ap (λ (n : ℕ). filter (λ c. pruned_at 1 (p ++ c ∷ [])) (below n)) (no_size sizes (length p) m))

  -- the lists beneath the prefixes of length d are those beneath all tuples of this length
  all_beneath : (f d : ℕ) → 0 < f → d ≤ length sizes
      → lists_beneath (pruned_at f) sizes (prefixes_at (pruned_at f) sizes d) ≡ lists_beneath (pruned_at f) sizes (tuples (take d sizes))
  all_beneath f d h k =
      ap (lists_beneath (pruned_at f) sizes) (flat-paths (pruned_at f) sizes (pruned_root f h) (pruned_closed f) d k)
      ∙ beneath_within (pruned_at f) sizes (pruned_closed f) (tuples (take d sizes))

  -- so they are the same where the next level is pruned
  same_beneath : (f d : ℕ) → 0 < f → f ≤ suc d → d ≤ length sizes
      → lists_beneath (pruned_at f) sizes (prefixes_at (pruned_at f) sizes d)
      ≡ lists_beneath (pruned_at 1) sizes (prefixes_at (pruned_at 1) sizes d)
  same_beneath f d h k m =
      all_beneath f d h m
      ∙ ap (filter is_nonempty)
      (map-ext-each (λ p. length p ≡ length (take d sizes)) (next (pruned_at f) sizes) (next (pruned_at 1) sizes)
      (λ p e. same_next f p (omega (arith, k, e, length-take-le d sizes m))) (tuples (take d sizes)) (tuples-long (take d sizes)))
      ∙ sym (all_beneath 1 d (omega arith) m)

  goes_on : (d : ℕ) → 0 < d → d < length sizes → GoesOn (pruned_at 1) sizes d
  goes_on d h k p i =
      list_any-mono (λ c. begins (p ++ c ∷ [])) (λ c. pruned_at 1 (p ++ c ∷ []))
      (λ c e. late_is 1 (p ++ c ∷ []) (omega (arith, length_push p c)) (omega (arith, length_push p c, i.count, k)) ∙ e)
      (below (slice_index sizes (length p)))
      (sym (begins-next value sizes p (omega (arith, i.count, k)))
      ∙ sym (late_is 1 p (omega (arith, i.count, h)) (omega (arith, i.count, k))) ∙ i.passes)

  -- the ends of a level, where it is pruned from its own level on or earlier, are those of that tree
  pub pruned-ends : (f k : ℕ) → 0 < f → f ≤ suc k → suc k ≤ length sizes
      → segs_of (suc k) (stream_at (pruned_shape f (suc k)) Coordinate) ≡ level_ends (pruned_at 1) sizes k
  pruned-ends f zero h k m =
      let first : f ≡ 1 = omega (arith, h, k) in
      first-ends (pruned_shape f 1) refl ∙ ap (λ (f : ℕ). level_ends (pruned_at f) sizes 0) first
  pruned-ends f (suc n) h k m =
      later-ends (pruned_shape f (suc (suc n))) n refl
      ∙ ap (λ (xss : List (List ℕ)). ends_of xss) (same_beneath f (suc n) h k (omega (arith, m)))
      ∙ sym (later-ends (pruned_shape 1 (suc (suc n))) n refl)
      ∙ full-ends (pruned_shape 1 (suc (suc n))) n refl (pruned_root 1 (omega arith)) (goes_on (suc n) (omega arith) m)

  -- and so are its coordinates
  pub pruned-coordinates : (f k : ℕ) → 0 < f → f ≤ suc k → suc k ≤ length sizes
      → crds_of (stream_at (pruned_shape f (suc k)) Coordinate) ≡ level_coordinates (pruned_at 1) sizes k
  pruned-coordinates f k h l m = coordinates-listed (pruned_shape f (suc k)) ∙ ap (map last) (same-prefixes f (suc k) h l m)
