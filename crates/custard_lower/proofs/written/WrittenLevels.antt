-- The levels of a written result that has the prefixes of a tree: they are in range, and each value's path is its prefix.
use Rattle.std.specs.Prelude.{◌≡◌, ◌<◌, ℕ, zero, suc, ◌+◌, Bool, List, [], ◌∷◌, ◌++◌, length, get_or, refl}
use Rattle.std.specs.List.{flat_map, range_with_len, enumerate_from}
use mathlib.Core.List.{map}
use Rattle.std.proofs.Common.{arith, sym, ◌∙◌, ap, subst, append_assoc, append-nil, add-one}
use Rattle.std.proofs.lemmas.List.{length-map, get_or-map}
use Rattle.stream_tokens.specs.Shapes.{Each}
use Rattle.sam_model.specs.declared.tensors.Written.{Written}
use Rattle.sam_model.specs.Listing.{LevelInRange, LevelsInRange, ValuesInRange, InRange, place_above, outer_place, path_of, listing}
use Rattle.stream_model.specs.Grow.{next, longer, path_fibers}
use Rattle.stream_model.specs.Labels.{last}
use Rattle.sam_model.proofs.Lists.{Each-always, Each-map}
use Rattle.stream_model.proofs.Grown.{path_fibers-suc}
use Rattle.stream_model.proofs.Flat.{in_order, in_order-under}
use Rattle.stream_model.proofs.Levels.{last-longer}
use Rattle.custard_lower.proofs.written.WrittenPlaces.{ends_of, level-range, place-above}

-- ---- levels in turn

-- n levels from level k on
abbrev pub levels_from : {A : Type 0} → (ℕ → A) → ℕ → ℕ → List A
levels_from level k zero = []
levels_from level k (suc n) = level k ∷ levels_from level (suc k) n

-- the same levels where they are counted from 1
pub levels-in-turn : {A : Type 0} (counted level : ℕ → A) (k n m : ℕ) → k + n ≡ m
    → ((j : ℕ) → j < m → counted (suc j) ≡ level j)
    → map counted (range_with_len (suc k) n) ≡ levels_from level k n
levels-in-turn counted level k zero m e h = refl
levels-in-turn {A = A} counted level k (suc n) m e h =
    rw (add-one, h k (omega (arith, e)))
    (ap (λ (x : List A). level k ∷ x) (levels-in-turn counted level (suc k) n m (omega (arith, e)) h))

length_levels : {A : Type 0} (level : ℕ → A) (k n : ℕ) → length (levels_from level k n) ≡ n
length_levels level k zero = refl
length_levels level k (suc n) = ap suc (length_levels level (suc k) n)

-- values that are numbered from n on, each with the path of its number
numbered_paths : (path : ℕ → List ℕ) (value : List ℕ → ℕ) (n : ℕ) (xs : List (List ℕ))
    → ((q : ℕ) → q < length xs → path (n + q) ≡ get_or xs q [])
    → map {B = List ℕ × ℕ} (λ numbered. (path numbered.0, numbered.1)) (enumerate_from n (map value xs))
    ≡ map (λ x. (x, value x)) xs
numbered_paths path value n [] h = refl
numbered_paths path value n (x ∷ xs) h =
    let here : path n ≡ x = ap path (omega arith) ∙ h 0 (omega arith) in
    let more : (q : ℕ) → q < length xs → path (n + 1 + q) ≡ get_or xs q [] =
    λ q less. ap path (omega arith) ∙ h (suc q) (omega (arith, less)) in
    rw (here, numbered_paths path value (n + 1) xs more) refl

-- ---- the levels of a tree

module _ (ok : List ℕ → Bool) (sizes : List ℕ) where
  -- the prefixes of length k, in the order of their stream
  abbrev pub prefixes_at : ℕ → List (List ℕ)
  prefixes_at k = in_order (path_fibers ok sizes k)

  -- the arrays of the level after k others: the ends of the longer prefixes of each prefix, and their last coordinates
  abbrev pub level_ends : ℕ → List ℕ
  level_ends k = ends_of (map (longer ok sizes) (prefixes_at k))

  abbrev pub level_coordinates : ℕ → List ℕ
  level_coordinates k = map last (prefixes_at (suc k))

  -- those of n levels after k others
  abbrev segs_from : ℕ → ℕ → List (List ℕ)
  segs_from k n = levels_from level_ends k n

  abbrev crds_from : ℕ → ℕ → List (List ℕ)
  crds_from k n = levels_from level_coordinates k n

  prefixes_longer : (k : ℕ) → prefixes_at (suc k) ≡ flat_map (longer ok sizes) (prefixes_at k)
  prefixes_longer k = ap in_order (path_fibers-suc ok sizes k) ∙ in_order-under (longer ok sizes) (path_fibers ok sizes k)

  -- ---- in range

  one_range : (k : ℕ) → LevelInRange (length (prefixes_at k)) (level_ends k) (level_coordinates k)
  one_range k =
      level-range (longer ok sizes) (prefixes_at k) (level_coordinates k)
      (length-map (prefixes_at (suc k)) last ∙ ap (λ (ps : List (List ℕ)). length ps) (prefixes_longer k))

  all_range : (k n : ℕ) → LevelsInRange (length (prefixes_at k)) (segs_from k n) (crds_from k n)
  all_range k zero = tt
  all_range k (suc n) = (
    one_range k,
    subst (λ (above : ℕ). LevelsInRange above (segs_from (suc k) n) (crds_from (suc k) n))
        (sym (length-map (prefixes_at (suc k)) last)) (all_range (suc k) n),
  )

  values_range : (k n m : ℕ) (vals : List ℕ) → suc (k + n) ≡ m → length vals ≡ length (prefixes_at m)
      → ValuesInRange (crds_from k (suc n)) vals
  values_range k zero m vals e h =
      let same : m ≡ suc k = omega (arith, e) in
      h ∙ ap (λ (j : ℕ). length (prefixes_at j)) same ∙ sym (length-map (prefixes_at (suc k)) last)
  values_range k (suc n) m vals e h = values_range (suc k) n m vals (omega (arith, e)) h

  -- ---- paths

  -- x is p with one more coordinate
  abbrev IsLonger : List ℕ → List ℕ → Type 0
  IsLonger p x = x ≡ p ++ last x ∷ []

  each_longer : (p : List ℕ) → Each (IsLonger p) (longer ok sizes p)
  each_longer p =
      Each-map (IsLonger p) (λ c. p ++ c ∷ []) (λ (c : ℕ). Unit {0})
      (λ c e. ap (λ (n : ℕ). p ++ n ∷ []) (sym (last-longer p c))) (next ok sizes p)
      (Each-always (λ (c : ℕ). Unit {0}) (λ c. tt) (next ok sizes p))

  above_longer : (k i : ℕ) → i < length (prefixes_at (suc k))
      → (place_above (level_ends k) i < length (prefixes_at k))
      × IsLonger (get_or (prefixes_at k) (place_above (level_ends k) i) []) (get_or (prefixes_at (suc k)) i [])
  above_longer k i h =
      subst (λ (ps : List (List ℕ)). i < length ps → (place_above (level_ends k) i < length (prefixes_at k))
      × IsLonger (get_or (prefixes_at k) (place_above (level_ends k) i) []) (get_or ps i []))
      (sym (prefixes_longer k))
      (place-above (longer ok sizes) IsLonger each_longer (prefixes_at k) i [] []) h

  -- the prefix of the place above goes on with the coordinate of the place
  path_on : (k i : ℕ) (path : List ℕ) → i < length (prefixes_at (suc k))
      → get_or (prefixes_at k) (place_above (level_ends k) i) [] ++ get_or (level_coordinates k) i 0 ∷ path
      ≡ get_or (prefixes_at (suc k)) i [] ++ path
  path_on k i path h =
      let p : List ℕ = get_or (prefixes_at k) (place_above (level_ends k) i) [] in
      ap (λ (c : ℕ). p ++ c ∷ path) (get_or-map last (prefixes_at (suc k)) i [] 0 h)
      ∙ sym (append_assoc p (last (get_or (prefixes_at (suc k)) i []) ∷ []) path)
      ∙ ap (λ (x : List ℕ). x ++ path) (sym (above_longer k i h).1)

  -- place q of the last of n levels is under a place of the level above them, whose prefix goes on by its path
  record Leads (k n m q : ℕ) : Type 0 where
    place : outer_place (segs_from k n) q < length (prefixes_at k)
    path : get_or (prefixes_at k) (outer_place (segs_from k n) q) [] ++ path_of (segs_from k n) (crds_from k n) q
        ≡ get_or (prefixes_at m) q []

  leads : (k n m q : ℕ) → k + n ≡ m → q < length (prefixes_at m) → Leads k n m q
  leads k zero m q e h =
      let same : m ≡ k = omega (arith, e) in
      record {
        place = subst (λ (j : ℕ). q < length (prefixes_at j)) same h;
        path = append-nil (get_or (prefixes_at k) q []) ∙ ap (λ (j : ℕ). get_or (prefixes_at j) q []) (sym same);
      }
  leads k (suc n) m q e h =
      let rest = leads (suc k) n m q (omega (arith, e)) h in
      let place : ℕ = outer_place (segs_from (suc k) n) q in
      record {
        place = (above_longer k place rest.place).0;
        path = path_on k place (path_of (segs_from (suc k) n) (crds_from (suc k) n) q) rest.place ∙ rest.path;
      }

  only_root : (place : ℕ) → place < 1 → get_or (prefixes_at 0) place [] ≡ []
  only_root zero h = refl
  only_root (suc n) h = absurd (omega (arith, h))

  full_path : (r q : ℕ) → q < length (prefixes_at r) → path_of (segs_from 0 r) (crds_from 0 r) q ≡ get_or (prefixes_at r) q []
  full_path r q h =
      let all = leads 0 r r q (omega arith) h in
      ap (λ (p : List ℕ). p ++ path_of (segs_from 0 r) (crds_from 0 r) q)
      (sym (only_root (outer_place (segs_from 0 r) q) all.place))
      ∙ all.path

  -- ---- the listing

  -- the arrays of the first r levels of the tree, with a value at each prefix of length r
  abbrev pub tree_written : ℕ → (List ℕ → ℕ) → Written
  tree_written r value = record {
    segs = levels_from level_ends 0 r;
    crds = levels_from level_coordinates 0 r;
    vals = map value (prefixes_at r);
  }

  -- they are in range
  pub tree-range : (r : ℕ) (value : List ℕ → ℕ) → 0 < r → InRange r (tree_written r value)
  tree-range zero value h = absurd (omega (arith, h))
  tree-range (suc n) value h = record {
    segs = length_levels level_ends 0 (suc n);
    crds = length_levels level_coordinates 0 (suc n);
    levels = all_range 0 (suc n);
    vals = values_range 0 n (suc n) (map value (prefixes_at (suc n))) (omega arith) (length-map (prefixes_at (suc n)) value);
  }

  -- and list each of these prefixes with its value
  pub tree-listing : (r : ℕ) (value : List ℕ → ℕ) → listing (tree_written r value) ≡ map (λ x. (x, value x)) (prefixes_at r)
  tree-listing r value =
      numbered_paths (path_of (segs_from 0 r) (crds_from 0 r)) value 0 (prefixes_at r)
      (λ q h. ap (path_of (segs_from 0 r) (crds_from 0 r)) (omega arith) ∙ full_path r q h)
