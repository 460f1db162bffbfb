-- What a dense and a compressed level hold, and where the entries stand after it.
use Rattle.std.proofs.Common.{◌≡◌, ℕ, zero, suc, ◌+◌, ◌*◌, ◌<◌, true, List, [], ◌∷◌, Some, length, take, refl, ap, sym, ◌∙◌, arith, length-append, zero-add}
use Rattle.std.specs.Prelude.{slice_get, slice_index, slice_index_or}
use Rattle.std.specs.List.{filter}
use mathlib.Core.List.{map, map-map}
use Rattle.std.proofs.lemmas.List.{get_or_append_left, get_or-append-add, length-map}
use Rattle.std.proofs.lemmas.List.FromFn.{length-map-range_with_len, get_or-map-range_with_len}
use Rattle.std.proofs.lemmas.Nat.{mul-add-lt}
use Rattle.std.proofs.Math.Nat.{mul_comm}
use Rattle.sam_model.specs.declared.tensors.Format.TheVariants.{Dense, Compressed}
use Rattle.sam_model.specs.Lists.{below, within}
use Rattle.sam_model.specs.Tensors.{Stored, is_stored, stored_prefixes}
use Rattle.sam_model.specs.Children.{children_of}
use Rattle.levels.specs.Arrays.{dense_children, fibers}
use Rattle.sam_base.specs.Each.{Each}
use Rattle.sam_model.proofs.Lists.{map-ext-each, flat_map-ext-each, filter-ext, Each-mapped, Each-weaker, Each-both}
use Rattle.levels.specs.Sorted.{Sorted}
use Rattle.levels.specs.Pairs.{NotAfter, with_pairs, before}
use Rattle.levels.specs.Placed.{list_at, InOrder, Placed, pairs_at}
use Rattle.levels.proofs.Prefixes.{longer, stored-compressed}
use Rattle.levels.proofs.Ascending.{prefixes-ascend, prefixes-long, number_all}
use Rattle.levels.proofs.PairLemmas.{has, pairs_by, below-inside, pairs-by-parents}
use Rattle.levels.proofs.Views.{dense-numbered, compressed-numbered}
use Rattle.levels.proofs.Steps.{pair_prefix, coordinates_under, all_pairs, children-by-places, prefixes-by-places, under-long, dense-under, joined-pairs, has-pair, pairs-sorted, pairs-inside, within-at}

-- ---- lists by places

pub list_at-map : (f : ℕ × ℕ → List ℕ) (xs : List (ℕ × ℕ)) (i : ℕ) → i < length xs → list_at (map f xs) i ≡ f (slice_index_or xs i (0, 0))
list_at-map f [] i h = absurd (omega arith)
list_at-map f (x ∷ xs) zero h = refl
list_at-map f (x ∷ xs) (suc i) h = list_at-map f xs i (omega arith)

abbrev pub grid : ℕ → ℕ → ℕ → List (ℕ × ℕ)
grid s a n = pairs_by (λ r. below s) a n

grid-length : (s a n : ℕ) → length (grid s a n) ≡ n * s
grid-length s a zero = sym (zero-times s)
  where
    zero-times : (s : ℕ) → 0 * s ≡ 0
    zero-times s = grind arith
grid-length s a (suc n) =
    let row : length {A = ℕ × ℕ} (map (λ c. (a, c)) (below s)) ≡ s = length-map-range_with_len (λ c. (a, c)) 0 s in
    length-append (map (λ c. (a, c)) (below s)) (grid s (a + 1) n) ∙ sum row (grid-length s (a + 1) n)
  where
    sum : {l m : ℕ} → l ≡ s → m ≡ n * s → l + m ≡ suc n * s
    sum e f = rw (e, f) (grind arith)

grid-at : (s a n i c : ℕ) → i < n → c < s → slice_index_or (grid s a n) (i * s + c) (0, 0) ≡ (a + i, c)
grid-at s a zero i c h l = absurd (omega arith)
grid-at s a (suc n) zero c h l =
    let row : length {A = ℕ × ℕ} (map (λ c. (a, c)) (below s)) ≡ s = length-map-range_with_len (λ c. (a, c)) 0 s in
    let place : 0 * s + c ≡ c = grind arith in
    let start : a + 0 ≡ a = omega arith in
    ap (λ m. slice_index_or (grid s a (suc n)) m (0, 0)) place
    ∙ get_or_append_left (map (λ c. (a, c)) (below s)) (grid s (a + 1) n) (0, 0) c (omega arith)
    ∙ get_or-map-range_with_len (λ c. (a, c)) 0 s c c (0, 0) l (zero-add c)
    ∙ ap (λ m. (m, c)) (sym start)
grid-at s a (suc n) (suc i) c h l =
    let row : length {A = ℕ × ℕ} (map (λ c. (a, c)) (below s)) ≡ s = length-map-range_with_len (λ c. (a, c)) 0 s in
    let place : suc i * s + c ≡ length {A = ℕ × ℕ} (map (λ c. (a, c)) (below s)) + (i * s + c) = next (length {A = ℕ × ℕ} (map (λ c. (a, c)) (below s))) row in
    let start : a + 1 + i ≡ a + suc i = omega arith in
    ap (λ m. slice_index_or (grid s a (suc n)) m (0, 0)) place
    ∙ get_or-append-add (map (λ c. (a, c)) (below s)) (grid s (a + 1) n) (i * s + c) (0, 0)
    ∙ grid-at s (a + 1) n i c (omega arith) l
    ∙ ap (λ m. (m, c)) start
  where
    next : (m : ℕ) → m ≡ s → suc i * s + c ≡ m + (i * s + c)
    next m e = rw e (grind arith)

-- ---- what holds of the entries

module _ (a : Stored) (order : InOrder a) (k : ℕ) (inside : k < length a.sizes) where
  pub entries-long : Each (λ entry. k < length entry.0) a.entries
  entries-long = Each-weaker (λ entry. length entry.0 ≡ length a.sizes) (λ entry. k < length entry.0) (λ entry e. omega arith) a.entries order.long

  pub entries-below : Each (λ entry. slice_index entry.0 k < slice_index a.sizes k) a.entries
  entries-below =
      Each-weaker (λ entry. (within a.sizes entry.0 ≡ true) × (k < length entry.0)) (λ entry. slice_index entry.0 k < slice_index a.sizes k)
      (λ entry h. within-at a.sizes entry.0 k h.0 h.1) a.entries (Each-both (λ entry. within a.sizes entry.0 ≡ true) (λ entry. k < length entry.0) a.entries order.inside entries-long)

  module _ (count : ℕ) (ranks : List ℕ) (placed : Placed a k count ranks) where
    ranks-inside : Each (λ r. r < length (stored_prefixes a k)) ranks
    ranks-inside = Each-weaker (λ r. r < count) (λ r. r < length (stored_prefixes a k)) (λ r h. let e = placed.counted in omega arith) ranks placed.ranked

    pub level-pairs-inside : Each (λ x. (x.0 < count) × (x.1 < slice_index a.sizes k)) (pairs_at ranks k a.entries)
    level-pairs-inside = pairs-inside count (slice_index a.sizes k) k ranks a.entries placed.ranked entries-below

    pub level-pairs-sorted : Sorted NotAfter (pairs_at ranks k a.entries)
    level-pairs-sorted = pairs-sorted (stored_prefixes a k) k (prefixes-ascend a k) (prefixes-long a k (omega arith)) ranks a.entries placed.placed entries-long ranks-inside order.sorted

    -- ---- a dense level

    module _ (at : slice_get a.formats k ≡ Some Dense) where
      dense-pairs : all_pairs a k Dense inside at ≡ grid (slice_index a.sizes k) 0 (length (stored_prefixes a k))
      dense-pairs =
          flat_map-ext-each (λ r. r < length (stored_prefixes a k)) (λ r. map (λ c. (r, c)) (coordinates_under a k Dense inside at r)) (λ r. map (λ c. (r, c)) (below (slice_index a.sizes k)))
          (λ r h. ap (map (λ c. (r, c))) (dense-under a k inside at r h)) (below (length (stored_prefixes a k))) (below-inside (length (stored_prefixes a k)))

      dense-prefixes : stored_prefixes a (suc k) ≡ map (pair_prefix (stored_prefixes a k)) (grid (slice_index a.sizes k) 0 (length (stored_prefixes a k)))
      dense-prefixes = prefixes-by-places a k Dense inside at ∙ ap (map (pair_prefix (stored_prefixes a k))) dense-pairs

      pub dense-count : count * slice_index a.sizes k ≡ length (stored_prefixes a (suc k))
      dense-count =
          ap (λ n. n * slice_index a.sizes k) placed.counted
          ∙ sym (ap length dense-prefixes ∙ length-map (grid (slice_index a.sizes k) 0 (length (stored_prefixes a k))) (pair_prefix (stored_prefixes a k))
          ∙ grid-length (slice_index a.sizes k) 0 (length (stored_prefixes a k)))

      pub dense-children-of : dense_children (slice_index a.sizes k) count ≡ children_of a (suc k)
      dense-children-of =
          ap (dense_children (slice_index a.sizes k)) placed.counted
          ∙ dense-numbered (slice_index a.sizes k) (length (stored_prefixes a k))
          ∙ ap (number_all 0) (map-ext-each (λ r. r < length (stored_prefixes a k)) (λ r. below (slice_index a.sizes k)) (coordinates_under a k Dense inside at)
          (λ r h. sym (dense-under a k inside at r h)) (below (length (stored_prefixes a k))) (below-inside (length (stored_prefixes a k))))
          ∙ sym (children-by-places a k Dense inside at)

      pub dense-placed : Placed a (suc k) (count * slice_index a.sizes k) (map (λ x. x.0 * slice_index a.sizes k + x.1) (pairs_at ranks k a.entries))
      dense-placed = record {
        counted = dense-count;
        ranked = Each-mapped (λ r. r < count * slice_index a.sizes k) (λ x. x.0 * slice_index a.sizes k + x.1) (pairs_at ranks k a.entries)
            (Each-weaker (λ x. (x.0 < count) × (x.1 < slice_index a.sizes k)) (λ x. x.0 * slice_index a.sizes k + x.1 < count * slice_index a.sizes k)
            (λ x h. rank-below x.0 x.1 h.0 h.1) (pairs_at ranks k a.entries) level-pairs-inside);
        placed =
            map-map (list_at (stored_prefixes a (suc k))) (λ x. x.0 * slice_index a.sizes k + x.1) (pairs_at ranks k a.entries)
            ∙ map-ext-each (λ x. (x.0 < count) × (x.1 < slice_index a.sizes k)) (λ x. list_at (stored_prefixes a (suc k)) (x.0 * slice_index a.sizes k + x.1)) (pair_prefix (stored_prefixes a k))
            (λ x h. at-pair x.0 x.1 h.0 h.1) (pairs_at ranks k a.entries) level-pairs-inside
            ∙ joined-pairs (stored_prefixes a k) k ranks a.entries placed.placed entries-long;
      }
        where
          rank-below : (r c : ℕ) → r < count → c < slice_index a.sizes k → r * slice_index a.sizes k + c < count * slice_index a.sizes k
          rank-below r c h l = rw (mul_comm count (slice_index a.sizes k)) (mul-add-lt r (slice_index a.sizes k) c count h l)

          at-pair : (r c : ℕ) → r < count → c < slice_index a.sizes k → list_at (stored_prefixes a (suc k)) (r * slice_index a.sizes k + c) ≡ pair_prefix (stored_prefixes a k) (r, c)
          at-pair r c h l =
              let n : count ≡ length (stored_prefixes a k) = placed.counted in
              let small : r * slice_index a.sizes k + c < length (grid (slice_index a.sizes k) 0 (length (stored_prefixes a k)))
              = rw (grid-length (slice_index a.sizes k) 0 (length (stored_prefixes a k)), ← n) (rank-below r c h l) in
              ap (λ ps. list_at ps (r * slice_index a.sizes k + c)) dense-prefixes
              ∙ list_at-map (pair_prefix (stored_prefixes a k)) (grid (slice_index a.sizes k) 0 (length (stored_prefixes a k))) (r * slice_index a.sizes k + c) small
              ∙ ap (pair_prefix (stored_prefixes a k)) (grid-at (slice_index a.sizes k) 0 (length (stored_prefixes a k)) r c (omega arith) l ∙ ap (λ m. (m, c)) (zero-add r))

    -- ---- a compressed level

    module _ (at : slice_get a.formats k ≡ Some Compressed) where
      compressed-under : (r : ℕ) → r < length (stored_prefixes a k) → coordinates_under a k Compressed inside at r ≡ filter (λ c. has (pairs_at ranks k a.entries) (r, c)) (below (slice_index a.sizes k))
      compressed-under r h =
          let long = under-long a k Compressed inside at r h in
          filter-ext (λ c. is_stored a (longer (list_at (stored_prefixes a k) r) c)) (λ c. has (pairs_at ranks k a.entries) (r, c))
          (λ c. stored-compressed a (list_at (stored_prefixes a k) r) c k long at
          ∙ has-pair (stored_prefixes a k) k (prefixes-ascend a k) (prefixes-long a k (omega arith)) ranks a.entries placed.placed entries-long ranks-inside r c h)
          (below (slice_index a.sizes (length (list_at (stored_prefixes a k) r))))
          ∙ ap (λ n. filter (λ c. has (pairs_at ranks k a.entries) (r, c)) (below (slice_index a.sizes n))) long

      pub compressed-pairs : with_pairs [] (pairs_at ranks k a.entries) ≡ all_pairs a k Compressed inside at
      compressed-pairs =
          pairs-by-parents count (slice_index a.sizes k) (pairs_at ranks k a.entries) level-pairs-sorted level-pairs-inside
          ∙ ap (pairs_by (λ r. filter (λ c. has (pairs_at ranks k a.entries) (r, c)) (below (slice_index a.sizes k))) 0) placed.counted
          ∙ flat_map-ext-each (λ r. r < length (stored_prefixes a k)) (λ r. map (λ c. (r, c)) (filter (λ c. has (pairs_at ranks k a.entries) (r, c)) (below (slice_index a.sizes k))))
          (λ r. map (λ c. (r, c)) (coordinates_under a k Compressed inside at r))
          (λ r h. ap (map (λ c. (r, c))) (sym (compressed-under r h))) (below (length (stored_prefixes a k))) (below-inside (length (stored_prefixes a k)))

      compressed-prefixes : stored_prefixes a (suc k) ≡ map (pair_prefix (stored_prefixes a k)) (with_pairs [] (pairs_at ranks k a.entries))
      compressed-prefixes = prefixes-by-places a k Compressed inside at ∙ ap (map (pair_prefix (stored_prefixes a k))) (sym compressed-pairs)

      pub compressed-count : length (with_pairs [] (pairs_at ranks k a.entries)) ≡ length (stored_prefixes a (suc k))
      compressed-count = sym (ap length compressed-prefixes ∙ length-map (with_pairs [] (pairs_at ranks k a.entries)) (pair_prefix (stored_prefixes a k)))

      pub compressed-children-of : fibers (map (before (with_pairs [] (pairs_at ranks k a.entries))) (below (count + 1))) (map (λ (x : ℕ × ℕ). x.1) (with_pairs [] (pairs_at ranks k a.entries))) ≡ children_of a (suc k)
      compressed-children-of =
          ap (λ n. fibers (map (before (with_pairs [] (pairs_at ranks k a.entries))) (below (n + 1))) (map (λ (x : ℕ × ℕ). x.1) (with_pairs [] (pairs_at ranks k a.entries)))) placed.counted
          ∙ compressed-numbered (coordinates_under a k Compressed inside at) (length (stored_prefixes a k)) (with_pairs [] (pairs_at ranks k a.entries)) compressed-pairs
          ∙ sym (children-by-places a k Compressed inside at)

      pub compressed-placed : (next : List ℕ) → Each (λ r. r < length (with_pairs [] (pairs_at ranks k a.entries))) next
          → map (λ r. slice_index_or (with_pairs [] (pairs_at ranks k a.entries)) r (0, 0)) next ≡ pairs_at ranks k a.entries
          → Placed a (suc k) (length (with_pairs [] (pairs_at ranks k a.entries))) next
      compressed-placed next below-all there = record {
        counted = compressed-count;
        ranked = below-all;
        placed =
            map-ext-each (λ r. r < length (with_pairs [] (pairs_at ranks k a.entries))) (list_at (stored_prefixes a (suc k))) (λ r. pair_prefix (stored_prefixes a k) (slice_index_or (with_pairs [] (pairs_at ranks k a.entries)) r (0, 0)))
            (λ r h. ap (λ ps. list_at ps r) compressed-prefixes ∙ list_at-map (pair_prefix (stored_prefixes a k)) (with_pairs [] (pairs_at ranks k a.entries)) r h) next below-all
            ∙ sym (map-map (pair_prefix (stored_prefixes a k)) (λ r. slice_index_or (with_pairs [] (pairs_at ranks k a.entries)) r (0, 0)) next)
            ∙ ap (map (pair_prefix (stored_prefixes a k))) there
            ∙ joined-pairs (stored_prefixes a k) k ranks a.entries placed.placed entries-long;
      }

-- ---- the empty prefix

pub root-placed : (a : Stored) (ranks : List ℕ) → Each (λ r. r < 1) ranks → length ranks ≡ length a.entries → Placed a 0 1 ranks
root-placed a ranks all same = record {
  counted = refl;
  ranked = all;
  placed = fronts ranks a.entries all same;
}
  where
    fronts : (ranks : List ℕ) (entries : List (List ℕ × ℕ)) → Each (λ r. r < 1) ranks → length ranks ≡ length entries → map (list_at ([] ∷ [])) ranks ≡ map (λ entry. take 0 entry.0) entries
    fronts [] [] h e = refl
    fronts [] (x ∷ xs) h e = absurd (omega arith)
    fronts (r ∷ rs) [] h e = absurd (omega arith)
    fronts (zero ∷ rs) (x ∷ xs) h e = ap (λ t. [] ∷ t) (fronts rs xs h.1 (omega arith))
    fronts (suc r ∷ rs) (x ∷ xs) h e = let l = h.0 in absurd (omega arith)
