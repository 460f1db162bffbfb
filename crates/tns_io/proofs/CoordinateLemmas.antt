-- Results in coordinate form: they are in range, and list their rows.
use Rattle.std.proofs.Common.{◌≡◌, ℕ, zero, suc, ◌+◌, ◌*◌, ◌<◌, ◌≤◌, List, [], ◌∷◌, ◌++◌, length, get_or, take, drop, refl, sym, ap, ◌∙◌, arith, nat_le, add-one}
use Rattle.std.proofs.lemmas.Bool.{le-leb, lt-leb}
use Rattle.std.proofs.lemmas.List.{drop_more, drop-drop}
use Rattle.std.proofs.lemmas.List.FromFn.{length-range_with_len, get_or-range_with_len, length-map-range_with_len, get_or-map-range_with_len, map-range_with_len_more}
use Rattle.std.specs.List.{prefix_len, range_with_len, enumerate_from}
use mathlib.Core.List.{map}
use Rattle.sam_model.specs.Listing.{LevelInRange, LevelsInRange, ValuesInRange, InRange, outer_place, path_of, listing}
use Rattle.sam_model.specs.Lists.{below}
use Rattle.sam_model.specs.Tensors.{entry_list}
use Rattle.tns_io.specs.Coordinates.{column, level_ends}
use Rattle.tns_io.proofs.Rising.{Rises, rising}

-- an item of a row
pub in-rows : (row level levels count : ℕ) → row < count → level < levels → row * levels + level < count * levels
in-rows row level levels count h k =
    let more : suc row * levels ≤ count * levels = grind (arith, h) in
    omega (arith, more, k)

-- a column with one row more
pub column-on : (levels : ℕ) (rows : List ℕ) (level row : ℕ) (before after : List ℕ) → before ≡ column levels rows row level → after ≡ before ++ get_or rows (row * levels + level) 0 ∷ []
    → after ≡ column levels rows (row + 1) level
column-on levels rows level row before after h push =
    rw (push, h) (sym (map-range_with_len_more (λ row. get_or rows (row * levels + level) 0) 0 row row (omega arith)))

-- one number more, and one end more
range-on : (a n j : ℕ) → a + n ≡ j → range_with_len a n ++ j ∷ [] ≡ range_with_len a (suc n)
range-on a zero j e = let same : j ≡ a = omega (arith, e) in rw same refl
range-on a (suc n) j e = ap (λ (xs : List ℕ). a ∷ xs) (range-on (a + 1) n j (omega (arith, e)))

pub below-on : (n : ℕ) (before after : List ℕ) → before ≡ below n → after ≡ before ++ n ∷ [] → after ≡ below (n + 1)
below-on n before after h push = rw (push, h, add-one) (range-on 0 n n (omega arith))

-- one level more
pub levels-on : (f : ℕ → List ℕ) (n : ℕ) (item : List ℕ) (before after : List (List ℕ)) → before ≡ map f (below n) → item ≡ f n → after ≡ before ++ item ∷ [] → after ≡ map f (below (n + 1))
levels-on f n item before after h here push = rw (push, h, here) (sym (map-range_with_len_more f 0 n n (omega arith)))

-- numbers in turn ascend
rises-range : (x a n : ℕ) → x ≤ a → Rises x (range_with_len a n)
rises-range x a zero h = tt
rises-range x a (suc n) h = (h, rises-range a (a + 1) n (omega arith))

-- the ends of a level in coordinate form, and those of its places
ends-single : (level count : ℕ) → 1 ≤ level → level_ends level count ≡ below (suc count)
ends-single zero count h = absurd (omega (arith, h))
ends-single (suc level) count h = refl

-- the place above a place of such a level is the same
place-single : (a n q j : ℕ) → a + j ≡ suc q → j < n → prefix_len (λ end. nat_le end q) (range_with_len a n) ≡ j
place-single a zero q j e h = absurd (omega (arith, h))
place-single a (suc n) q zero e h = rw (lt-leb a q (omega (arith, e))) refl
place-single a (suc n) q (suc j) e h =
    rw (le-leb a q (omega (arith, e)), place-single (a + 1) n q j (omega (arith, e)) (omega (arith, h))) (omega arith)

-- the outermost level is in range
outer-in-range : (coordinates : List ℕ) (count : ℕ) → length coordinates ≡ count → LevelInRange 1 (level_ends 0 count) coordinates
outer-in-range coordinates count h = record { count = refl; first = refl; last = sym h; ascending = rising 0 (count ∷ []) (omega arith, tt) }

-- and so is each further one
single-in-range : (coordinates : List ℕ) (level count : ℕ) → 1 ≤ level → length coordinates ≡ count → LevelInRange count (level_ends level count) coordinates
single-in-range coordinates level count h k =
    rw (ends-single level count h)
    (record {
      count = length-range_with_len 0 (suc count);
      first = refl;
      last = let there = get_or-range_with_len 0 (suc count) count 0 (omega arith) in omega (arith, there, k);
      ascending = rising 0 (range_with_len 1 count) (rises-range 0 1 count (omega arith));
    })

module _ (levels count : ℕ) (rows : List ℕ) where
  -- so many levels from one on
  abbrev pub ends_from : ℕ → ℕ → List (List ℕ)
  ends_from k m = map (λ level. level_ends level count) (range_with_len k m)

  abbrev pub columns_from : ℕ → ℕ → List (List ℕ)
  columns_from k m = map (column levels rows count) (range_with_len k m)

  column-length : (level : ℕ) → length (column levels rows count level) ≡ count
  column-length level = length-map-range_with_len (λ row. get_or rows (row * levels + level) 0) 0 count

  inner-in-range : (above k m : ℕ) → above ≡ count → 1 ≤ k → LevelsInRange above (ends_from k m) (columns_from k m)
  inner-in-range above k zero e h = tt
  inner-in-range above k (suc m) e h = (
    rw e (single-in-range (column levels rows count k) k count h (column-length k)),
    inner-in-range (length (column levels rows count k)) (k + 1) m (column-length k) (omega arith),
  )

  all-in-range : (m : ℕ) → LevelsInRange 1 (ends_from 0 (suc m)) (columns_from 0 (suc m))
  all-in-range m = (outer-in-range (column levels rows count 0) count (column-length 0), inner-in-range (length (column levels rows count 0)) 1 m (column-length 0) (omega arith))

  values-in-range : (k m : ℕ) (vals : List ℕ) → length vals ≡ count → ValuesInRange (columns_from k (suc m)) vals
  values-in-range k zero vals h = h ∙ sym (column-length k)
  values-in-range k (suc m) vals h = values-in-range (k + 1) m vals h

  in-range : (vals : List ℕ) → 1 ≤ levels → length vals ≡ count → InRange levels (record { segs = ends_from 0 levels; crds = columns_from 0 levels; vals = vals })
  in-range vals h k = from-some levels h
    where
      from-some : (m : ℕ) → 1 ≤ m → InRange m (record { segs = ends_from 0 m; crds = columns_from 0 m; vals = vals })
      from-some zero h = absurd (omega (arith, h))
      from-some (suc m) h = record {
        segs = length-map-range_with_len (λ level. level_ends level count) 0 (suc m);
        crds = length-map-range_with_len (column levels rows count) 0 (suc m);
        levels = all-in-range m;
        vals = values-in-range 0 m vals k;
      }

  outer-single : (k m q : ℕ) → 1 ≤ k → q < count → outer_place (ends_from k m) q ≡ q
  outer-single k zero q h less = refl
  outer-single k (suc m) q h less =
      rw (outer-single (k + 1) m q (omega arith) less, ends-single k count h) (place-single 1 count q q (omega arith) less)

  module _ (whole : length rows ≡ count * levels) where
    -- a path is what is left of its row
    path-left : (k m q p : ℕ) → k + m ≡ levels → q < count → p ≡ q * levels + k → path_of (ends_from k m) (columns_from k m) q ≡ take m (drop p rows)
    path-left k zero q p e less at = refl
    path-left k (suc m) q p e less at =
        let inside = in-rows q k levels count less (omega (arith, e)) in
        let here : get_or (column levels rows count k) q 0 ≡ get_or rows p 0 =
        get_or-map-range_with_len (λ row. get_or rows (row * levels + k) 0) 0 count q q 0 less (omega arith) ∙ ap (λ (n : ℕ). get_or rows n 0) (sym at) in
        let rest = path-left (k + 1) m q (p + 1) (omega (arith, e)) less (omega (arith, at)) in
        rw (outer-single (k + 1) m q (omega arith) less, here, rest, drop_more rows p 0 (omega (arith, inside, at, whole))) refl

    entries-left : (vals : List ℕ) (n p : ℕ) → n + length vals ≡ count → p ≡ n * levels
        → map (λ numbered. (path_of (ends_from 0 levels) (columns_from 0 levels) numbered.0, numbered.1)) (enumerate_from n vals) ≡ entry_list levels (drop p rows) vals
    entries-left [] n p e at = refl
    entries-left (v ∷ vals) n p e at =
        let next : p + levels ≡ (n + 1) * levels = grind (arith, at) in
        rw (path-left 0 levels n p (omega arith) (omega (arith, e)) (omega (arith, at)), drop-drop levels p rows, entries-left vals (n + 1) (p + levels) (omega (arith, e)) next) refl

    lists-rows : (vals : List ℕ) → length vals ≡ count → listing (record { segs = ends_from 0 levels; crds = columns_from 0 levels; vals = vals }) ≡ entry_list levels rows vals
    lists-rows vals h = entries-left vals 0 0 (omega (arith, h)) (omega arith)

-- what the loop over the levels leaves
module _ (levels : ℕ) (rows vals : List ℕ) (segs crds : List (List ℕ)) (s : segs ≡ ends_from levels (length vals) rows 0 levels) (c : crds ≡ columns_from levels (length vals) rows 0 levels) where
  pub written-in-range : 1 ≤ levels → InRange levels (record { segs = segs; crds = crds; vals = vals })
  written-in-range h = rw (s, c) (in-range levels (length vals) rows vals h refl)

  pub written-lists-rows : length rows ≡ length vals * levels → listing (record { segs = segs; crds = crds; vals = vals }) ≡ entry_list levels rows vals
  written-lists-rows h = rw (s, c) (lists-rows levels (length vals) rows h vals refl)
