-- From the stored prefixes of a length to the next ones, by places.
use Rattle.std.proofs.Common.{◌≡◌, ℕ, zero, suc, ◌+◌, ◌<◌, ◌≤◌, Bool, true, false, ◌&&◌, ◌||◌, List, [], ◌∷◌, ◌++◌, Some, length, take, eqb, ltb, refl, ap, sym, ◌∙◌, arith, append_assoc, length-append, inl, inr, ◌⊎◌}
use Rattle.std.specs.Prelude.{slice_get, slice_index}
use Rattle.std.specs.List.{flat_map, filter, list_any, range_with_len}
use mathlib.Core.List.{map, map-map}
use Rattle.std.proofs.lemmas.Bool.Decides.{nat_tests}
use Rattle.std.proofs.lemmas.List.Folds.{flat_map-map}
use Rattle.sam_model.specs.declared.tensors.Format.{Format}
use Rattle.sam_model.specs.declared.tensors.Format.TheVariants.{Dense}
use Rattle.sam_model.specs.Lists.{below, same_list, smaller, within}
use Rattle.sam_model.specs.Tensors.{Stored, is_stored, stored_prefixes}
use Rattle.sam_model.specs.Children.{next_coordinates, children_of}
use Rattle.sam_base.specs.Each.{Each}
use Rattle.sam_model.proofs.Lists.{map-flat_map, flat_map-ext-each, filter-all-each, Each-always, Each-passed}
use Rattle.levels.specs.Sorted.{Sorted}
use Rattle.levels.specs.Placed.{list_at, pairs_at}
use Rattle.levels.specs.Pairs.{same_pair, pair_below, NotAfter}
use Rattle.levels.proofs.Prefixes.{longer, next_prefixes, prefixes-more, stored-dense}
use Rattle.levels.proofs.Ascending.{Ascending, ascending-at, same-place, prefixes-long, number_all, children-numbered}
use Rattle.levels.proofs.PairLemmas.{has, pairs_by}

-- the prefix that a pair stands for
abbrev pub pair_prefix : List (List ℕ) → ℕ × ℕ → List ℕ
pair_prefix ps x = longer (list_at ps x.0) x.1

-- ---- a list by its places

places-from : (done ps : List (List ℕ)) (a : ℕ) → length done ≡ a → map (list_at (done ++ ps)) (range_with_len a (length ps)) ≡ ps
places-from done [] a e = refl
places-from done (p ∷ ps) a e =
    let here = at done p ps a e in
    let shift : done ++ p ∷ ps ≡ (done ++ p ∷ []) ++ ps = sym (append_assoc done (p ∷ []) ps) in
    let long : length (done ++ p ∷ []) ≡ a + 1 = omega (arith, length-append done (p ∷ [])) in
    let there : map (list_at (done ++ p ∷ ps)) (range_with_len (a + 1) (length ps)) ≡ ps = ap (λ t. map (list_at t) (range_with_len (a + 1) (length ps))) shift ∙ places-from (done ++ p ∷ []) ps (a + 1) long in
    cc (here, there)
  where
    at : (done : List (List ℕ)) (p : List ℕ) (ps : List (List ℕ)) (a : ℕ) → length done ≡ a → list_at (done ++ p ∷ ps) a ≡ p
    at [] p ps zero e = refl
    at [] p ps (suc a) e = absurd (omega arith)
    at (d ∷ done) p ps zero e = absurd (omega arith)
    at (d ∷ done) p ps (suc a) e = at done p ps a (omega arith)

pub by-places : (ps : List (List ℕ)) → map (list_at ps) (below (length ps)) ≡ ps
by-places ps = places-from [] ps 0 refl

pub Each-at : (Q : List ℕ → Type 0) (ps : List (List ℕ)) → Each Q ps → (i : ℕ) → i < length ps → Q (list_at ps i)
Each-at Q [] all i h = absurd (omega arith)
Each-at Q (p ∷ ps) all zero h = all.0
Each-at Q (p ∷ ps) all (suc i) h = Each-at Q ps all.1 i (omega arith)

-- ---- the next prefixes by pairs

module _ (a : Stored) (k : ℕ) (f : Format) (inside : k < length a.sizes) (at : slice_get a.formats k ≡ Some f) where
  -- the coordinates under the prefix of rank r
  abbrev pub coordinates_under : ℕ → List ℕ
  coordinates_under r = next_coordinates a (list_at (stored_prefixes a k) r)

  abbrev pub all_pairs : List (ℕ × ℕ)
  all_pairs = pairs_by coordinates_under 0 (length (stored_prefixes a k))

  pub children-by-places : children_of a (suc k) ≡ number_all 0 (map coordinates_under (below (length (stored_prefixes a k))))
  children-by-places =
      children-numbered a k f inside at
      ∙ ap (number_all 0) (ap (map (next_coordinates a)) (sym (by-places (stored_prefixes a k))) ∙ map-map (next_coordinates a) (list_at (stored_prefixes a k)) (below (length (stored_prefixes a k))))

  pub prefixes-by-places : stored_prefixes a (suc k) ≡ map (pair_prefix (stored_prefixes a k)) all_pairs
  prefixes-by-places =
      prefixes-more a k inside
      ∙ ap (flat_map (next_prefixes a)) (sym (by-places (stored_prefixes a k)))
      ∙ flat_map-map (next_prefixes a) (list_at (stored_prefixes a k)) (below (length (stored_prefixes a k)))
      ∙ flat_map-ext-each (λ (r : ℕ). Unit {0}) (λ r. next_prefixes a (list_at (stored_prefixes a k) r)) (λ r. map (pair_prefix (stored_prefixes a k)) (map (λ c. (r, c)) (coordinates_under r)))
      (λ r _. sym (map-map (pair_prefix (stored_prefixes a k)) (λ c. (r, c)) (coordinates_under r))) (below (length (stored_prefixes a k)))
      (Each-always (λ (r : ℕ). Unit {0}) (λ r. tt) (below (length (stored_prefixes a k))))
      ∙ sym (map-flat_map (pair_prefix (stored_prefixes a k)) (λ r. map (λ c. (r, c)) (coordinates_under r)) (below (length (stored_prefixes a k))))

  pub under-long : (r : ℕ) → r < length (stored_prefixes a k) → length (list_at (stored_prefixes a k) r) ≡ k
  under-long r h = Each-at (λ p. length p ≡ k) (stored_prefixes a k) (prefixes-long a k (omega arith)) r h

-- ---- dense levels

pub dense-under : (a : Stored) (k : ℕ) → k < length a.sizes → slice_get a.formats k ≡ Some Dense → (r : ℕ) → r < length (stored_prefixes a k)
    → next_coordinates a (list_at (stored_prefixes a k) r) ≡ below (slice_index a.sizes k)
dense-under a k inside at r h =
    let long = under-long a k Dense inside at r h in
    let here = Each-at (λ p. is_stored a p ≡ true) (stored_prefixes a k) (Each-passed (is_stored a) (Rattle.sam_model.specs.Lists.tuples (take k a.sizes))) r h in
    filter-all (λ c. is_stored a (longer (list_at (stored_prefixes a k) r) c)) (λ c. stored-dense a (list_at (stored_prefixes a k) r) c k long at ∙ here) (below (slice_index a.sizes (length (list_at (stored_prefixes a k) r))))
    ∙ ap (λ n. below (slice_index a.sizes n)) long
  where
    filter-all : (p : ℕ → Bool) → ((x : ℕ) → p x ≡ true) → (xs : List ℕ) → filter p xs ≡ xs
    filter-all p e xs = filter-all-each p xs (Each-always (λ x. p x ≡ true) e xs)

-- ---- entries and pairs

module _ (ps : List (List ℕ)) (k : ℕ) where
  -- an entry's front is one coordinate longer
  pub front-longer : (xs : List ℕ) (k : ℕ) → k < length xs → take (suc k) xs ≡ longer (take k xs) (slice_index xs k)
  front-longer [] k h = absurd (omega arith)
  front-longer (x ∷ xs) zero h = refl
  front-longer (x ∷ xs) (suc k) h = ap (λ t. x ∷ t) (front-longer xs k (omega arith))

  pub joined-pairs : (ranks : List ℕ) (entries : List (List ℕ × ℕ)) → map (list_at ps) ranks ≡ map (λ entry. take k entry.0) entries → Each (λ entry. k < length entry.0) entries
      → map (pair_prefix ps) (pairs_at ranks k entries) ≡ map (λ entry. take (suc k) entry.0) entries
  joined-pairs [] [] e h = refl
  joined-pairs [] (entry ∷ entries) e h = cc
  joined-pairs (r ∷ ranks) [] e h = cc
  joined-pairs (r ∷ ranks) (entry ∷ entries) e h =
      let first : list_at ps r ≡ take k entry.0 = cc in
      let others : map (list_at ps) ranks ≡ map (λ entry. take k entry.0) entries = cc in
      let here : longer (list_at ps r) (slice_index entry.0 k) ≡ take (suc k) entry.0 = ap (λ p. longer p (slice_index entry.0 k)) first ∙ sym (front-longer entry.0 k h.0) in
      let there = joined-pairs ranks entries others h.1 in
      cc (here, there)

  pub same_list-longer : (q p : List ℕ) (d c : ℕ) → length q ≡ length p → same_list (longer q d) (longer p c) ≡ (same_list q p && eqb d c)
  same_list-longer [] [] d c e = and-true (eqb d c)
    where
      and-true : (b : Bool) → (b && true) ≡ (true && b)
      and-true true = refl
      and-true false = refl
  same_list-longer [] (y ∷ p) d c e = absurd (omega arith)
  same_list-longer (x ∷ q) [] d c e = absurd (omega arith)
  same_list-longer (x ∷ q) (y ∷ p) d c e = ap (λ b. eqb x y && b) (same_list-longer q p d c (omega arith)) ∙ and-assoc (eqb x y) (same_list q p) (eqb d c)
    where
      and-assoc : (a b c : Bool) → (a && (b && c)) ≡ ((a && b) && c)
      and-assoc true b c = refl
      and-assoc false b c = refl

  module _ (up : Ascending ps) (long : Each (λ p. length p ≡ k) ps) where
    -- an entry has these coordinates exactly where its pair is this one
    pub has-pair : (ranks : List ℕ) (entries : List (List ℕ × ℕ)) → map (list_at ps) ranks ≡ map (λ entry. take k entry.0) entries → Each (λ entry. k < length entry.0) entries
        → Each (λ r. r < length ps) ranks → (r c : ℕ) → r < length ps
        → list_any (λ entry. same_list (take (suc k) entry.0) (longer (list_at ps r) c)) entries ≡ has (pairs_at ranks k entries) (r, c)
    has-pair [] [] e h l r c i = refl
    has-pair [] (entry ∷ entries) e h l r c i = cc
    has-pair (s ∷ ranks) [] e h l r c i = cc
    has-pair (s ∷ ranks) (entry ∷ entries) e h l r c i =
        let first : list_at ps s ≡ take k entry.0 = cc in
        let others : map (list_at ps) ranks ≡ map (λ entry. take k entry.0) entries = cc in
        let lengths : length (list_at ps s) ≡ length (list_at ps r) = Each-at (λ p. length p ≡ k) ps long s l.0 ∙ sym (Each-at (λ p. length p ≡ k) ps long r i) in
        let front : take (suc k) entry.0 ≡ longer (list_at ps s) (slice_index entry.0 k) = front-longer entry.0 k h.0 ∙ ap (λ p. longer p (slice_index entry.0 k)) (sym first) in
        let here : same_list (take (suc k) entry.0) (longer (list_at ps r) c) ≡ same_pair (s, slice_index entry.0 k) (r, c)
        = ap (λ p. same_list p (longer (list_at ps r) c)) front ∙ same_list-longer (list_at ps s) (list_at ps r) (slice_index entry.0 k) c lengths
        ∙ ap (λ b. b && eqb (slice_index entry.0 k) c) (same-place ps up s r l.0 i) in
        let there = has-pair ranks entries others h.1 l.1 r c i in
        cc (here, there)

    -- what comes after what
    take-smaller : (k : ℕ) (x y : List ℕ) → k ≤ length x → k ≤ length y → smaller (take k x) (take k y) ≡ true → smaller x y ≡ true
    take-smaller zero x y hx hy h = cc
    take-smaller (suc k) [] y hx hy h = absurd (omega arith)
    take-smaller (suc k) (a ∷ x) [] hx hy h = absurd (omega arith)
    take-smaller (suc k) (a ∷ x) (b ∷ y) hx hy h = heads a b (smaller (take k x) (take k y)) (smaller x y) h (take-smaller k x y (omega arith) (omega arith))
      where
        heads : (a b : ℕ) (c d : Bool) → (ltb a b || (eqb a b && c)) ≡ true → (c ≡ true → d ≡ true) → (ltb a b || (eqb a b && d)) ≡ true
        heads a b c d h f = grind (arith, nat_tests)

    next-smaller : (k : ℕ) (x y : List ℕ) → k < length x → k < length y → take k x ≡ take k y → slice_index x k < slice_index y k → smaller x y ≡ true
    next-smaller zero [] y hx hy e h = absurd (omega arith)
    next-smaller zero (a ∷ x) [] hx hy e h = absurd (omega arith)
    next-smaller zero (a ∷ x) (b ∷ y) hx hy e h = first a b (smaller x y) h
      where
        first : (a b : ℕ) (c : Bool) → a < b → (ltb a b || (eqb a b && c)) ≡ true
        first a b c h = grind (arith, nat_tests)
    next-smaller (suc k) [] y hx hy e h = absurd (omega arith)
    next-smaller (suc k) (a ∷ x) [] hx hy e h = absurd (omega arith)
    next-smaller (suc k) (a ∷ x) (b ∷ y) hx hy e h =
        let s : a ≡ b = cc in
        let t : take k x ≡ take k y = cc in
        heads a b (smaller x y) s (next-smaller k x y (omega arith) (omega arith) t h)
      where
        heads : (a b : ℕ) (c : Bool) → a ≡ b → c ≡ true → (ltb a b || (eqb a b && c)) ≡ true
        heads a b c e h = grind (arith, nat_tests)

    pair-order : (r s : ℕ) (x y : List ℕ) → r < length ps → s < length ps → list_at ps r ≡ take k x → list_at ps s ≡ take k y → k < length x → k < length y → smaller y x ≡ false
        → pair_below (s, slice_index y k) (r, slice_index x k) ≡ false
    pair-order r s x y hr hs er es hx hy order = by_case (pair_below (s, slice_index y k) (r, slice_index x k)) refl
      where
        parents : (s r c d : ℕ) → (ltb s r || (eqb s r && ltb c d)) ≡ true → (s < r) ⊎ ((s ≡ r) × (c < d))
        parents s r c d h = split (ltb s r) refl
          where
            eq-of : (b : Bool) → ltb s r ≡ false → (ltb s r || (eqb s r && ltb c d)) ≡ true → (s ≡ r) × (c < d)
            eq-of b e h = (grind (arith, nat_tests), grind (arith, nat_tests))

            split : (b : Bool) → ltb s r ≡ b → (s < r) ⊎ ((s ≡ r) × (c < d))
            split true e = inl (grind (arith, nat_tests))
            split false e = inr (eq-of false e h)

        by_case : (b : Bool) → pair_below (s, slice_index y k) (r, slice_index x k) ≡ b → pair_below (s, slice_index y k) (r, slice_index x k) ≡ false
        by_case false e = e
        by_case true e =
            elim (parents s r (slice_index y k) (slice_index x k) e) [
              | inl l ↦
                  let p : smaller (list_at ps s) (list_at ps r) ≡ true = ascending-at ps up s r l hr in
                  let q : smaller (take k y) (take k x) ≡ true = ap (λ t. smaller t (take k x)) (sym es) ∙ ap (smaller (list_at ps s)) (sym er) ∙ p in
                  let t = take-smaller k y x (omega arith) (omega arith) q in cc
              | inr g ↦
                  let p : take k y ≡ take k x = sym es ∙ ap (list_at ps) g.0 ∙ er in
                  let t = next-smaller k y x hy hx p g.1 in cc
            ]

    pub pairs-sorted : (ranks : List ℕ) (entries : List (List ℕ × ℕ)) → map (list_at ps) ranks ≡ map (λ entry. take k entry.0) entries → Each (λ entry. k < length entry.0) entries
        → Each (λ r. r < length ps) ranks → Sorted (λ x y. smaller y.0 x.0 ≡ false) entries → Sorted NotAfter (pairs_at ranks k entries)
    pairs-sorted [] entries e h l sorted = tt
    pairs-sorted (r ∷ ranks) [] e h l sorted = tt
    pairs-sorted (r ∷ ranks) (entry ∷ entries) e h l sorted =
        let first : list_at ps r ≡ take k entry.0 = cc in
        let others : map (list_at ps) ranks ≡ map (λ entry. take k entry.0) entries = cc in
        (after ranks entries others h.1 l.1 sorted.0 first, pairs-sorted ranks entries others h.1 l.1 sorted.1)
      where
        after : (ranks : List ℕ) (entries : List (List ℕ × ℕ)) → map (list_at ps) ranks ≡ map (λ entry. take k entry.0) entries → Each (λ entry. k < length entry.0) entries
            → Each (λ r. r < length ps) ranks → Each (λ y. smaller y.0 entry.0 ≡ false) entries → list_at ps r ≡ take k entry.0
            → Each (λ y. pair_below y (r, slice_index entry.0 k) ≡ false) (pairs_at ranks k entries)
        after [] es e h' l' s first = tt
        after (q ∷ qs) [] e h' l' s first = tt
        after (q ∷ qs) (y ∷ es) e h' l' s first =
            let head : list_at ps q ≡ take k y.0 = cc in
            let others : map (list_at ps) qs ≡ map (λ entry. take k entry.0) es = cc in
            (pair-order r q entry.0 y.0 l.0 l'.0 first head h.0 h'.0 s.0, after qs es others h'.1 l'.1 s.1 first)

pub pairs-inside : (n s k : ℕ) (ranks : List ℕ) (entries : List (List ℕ × ℕ)) → Each (λ r. r < n) ranks → Each (λ entry. slice_index entry.0 k < s) entries
    → Each (λ x. (x.0 < n) × (x.1 < s)) (pairs_at ranks k entries)
pairs-inside n s k [] entries l h = tt
pairs-inside n s k (r ∷ ranks) [] l h = tt
pairs-inside n s k (r ∷ ranks) (entry ∷ entries) l h = ((l.0, h.0), pairs-inside n s k ranks entries l.1 h.1)

pub within-at : (sizes p : List ℕ) (k : ℕ) → within sizes p ≡ true → k < length p → slice_index p k < slice_index sizes k
within-at sizes [] k w h = absurd (omega arith)
within-at [] (c ∷ p) k w h = cc
within-at (s ∷ sizes) (c ∷ p) zero w h = first c s (within sizes p) w
  where
    first : (c s : ℕ) (b : Bool) → (ltb c s && b) ≡ true → c < s
    first c s b h = grind (arith, nat_tests)
within-at (s ∷ sizes) (c ∷ p) (suc k) w h = within-at sizes p k (Rattle.levels.proofs.Orders.and-right (ltb c s) (within sizes p) w) (omega arith)
