-- Paths with all coordinates of dense levels below them.
use Rattle.std.proofs.Common.{◌≡◌, ℕ, zero, suc, ◌+◌, ◌*◌, ◌<◌, ◌≤◌, Bool, true, List, [], ◌∷◌, ◌++◌, length, take, drop, refl, sym, ap, subst, ◌∙◌, arith, append_assoc}
use Rattle.std.specs.Prelude.{slice_index, nat_lt, nat_le}
use Rattle.std.specs.List.{flat_map, list_all}
use Rattle.std.proofs.lemmas.Bool.{and_parts}
use Rattle.std.proofs.lemmas.Bool.Decides.{nat_tests}
use Rattle.std.proofs.lemmas.List.{length-append, length-map}
use Rattle.std.proofs.lemmas.List.FromFn.{length-range_with_len, map-range_with_len_more}
use Rattle.std.proofs.lemmas.List.{drop_more}
use Rattle.std.proofs.lemmas.Grind.{flat_map-append}
use Rattle.sam_base.specs.Each.{Each}
use Rattle.sam_model.specs.declared.tensors.Tensor.{Tensor}
use Rattle.sam_model.specs.Accepted.{is_dimension, is_well_formed}
use Rattle.sam_model.specs.Lists.{below, items_at}
use Rattle.sam_model.proofs.Lists.{Each-always, Each-flat_map, Each-map}
use Rattle.sam_model.proofs.Orders.{order-in-range}
use Rattle.tns_io.specs.Closing.{longer_below, spread, multiplied}
use Rattle.tns_io.specs.Rows.{joined, rows_of}
use Rattle.tns_io.proofs.FoundEntries.{each-passes}
use Rattle.tns_io.proofs.RowLemmas.{rows_left, rows-next, joined-on, rows-joined, joined-long, rows-long, rows-many}

-- ---- one path

-- a path with one coordinate more
pub below-next : (path : List ℕ) (c : ℕ) (before with_path after : List ℕ) (base : List ℕ) → before ≡ base ++ joined (longer_below c path) → with_path ≡ before ++ path → after ≡ with_path ++ c ∷ []
    → after ≡ base ++ joined (longer_below (c + 1) path)
below-next path c before with_path after base h p push =
    push ∙ ap (λ (xs : List ℕ). xs ++ c ∷ []) (p ∙ ap (λ (xs : List ℕ). xs ++ path) h)
    ∙ append_assoc (base ++ joined (longer_below c path)) path (c ∷ [])
    ∙ append_assoc base (joined (longer_below c path)) (path ++ c ∷ [])
    ∙ ap (λ (xs : List ℕ). base ++ xs)
    (sym (joined-on (longer_below c path) (path ++ c ∷ [])) ∙ ap joined (sym (map-range_with_len_more (λ c. path ++ c ∷ []) 0 c c (omega arith))))

below-long : (s : ℕ) (path : List ℕ) (long : ℕ) → length path ≡ long → Each (λ p. length p ≡ long + 1) (longer_below s path)
below-long s path long h =
    Each-map (λ p. length p ≡ long + 1) (λ c. path ++ c ∷ []) (λ c. Unit {0})
    (λ c u. let more = length-append path (c ∷ []) in omega (arith, more, h)) (below s) (Each-always (λ c. Unit {0}) (λ c. tt) (below s))

below-many : (s : ℕ) (path : List ℕ) → length (longer_below s path) ≡ s
below-many s path = length-map (below s) (λ c. path ++ c ∷ []) ∙ length-range_with_len 0 s

-- ---- a level

pub level-long : (s long : ℕ) (paths : List (List ℕ)) → Each (λ p. length p ≡ long) paths → Each (λ p. length p ≡ long + 1) (flat_map (longer_below s) paths)
level-long s long paths h = Each-flat_map (λ p. length p ≡ long) (λ p. length p ≡ long + 1) (longer_below s) (λ p e. below-long s p long e) paths h

pub level-many : (s : ℕ) (paths : List (List ℕ)) → length (flat_map (longer_below s) paths) ≡ length paths * s
level-many s [] = omega arith
level-many s (p ∷ paths) =
    let here = below-many s p in
    let rest = level-many s paths in
    let both = length-append (longer_below s p) (flat_map (longer_below s) paths) in
    grind (arith, here, rest, both)

-- what one level leaves, for the levels that are left
module _ (long n s : ℕ) (numbers after : List ℕ) (whole : length numbers ≡ n * long)
    (h : after ≡ joined (flat_map (longer_below s) (rows_of long n numbers))) where
  abbrev longer : List (List ℕ)
  longer = flat_map (longer_below s) (rows_of long n numbers)

  each-longer : Each (λ p. length p ≡ long + 1) longer
  each-longer = level-long s long (rows_of long n numbers) (rows-long long n numbers whole)

  many : length longer ≡ n * s
  many = level-many s (rows_of long n numbers) ∙ ap (λ m. m * s) (rows-many long n numbers)

  pub level-rows : rows_of (long + 1) (n * s) after ≡ longer
  level-rows = ap (λ m. rows_of (long + 1) m after) (sym many) ∙ ap (rows_of (long + 1) (length longer)) h ∙ rows-joined (long + 1) longer each-longer

  pub level-whole : length after ≡ n * s * (long + 1)
  level-whole = ap length h ∙ joined-long (long + 1) longer each-longer ∙ ap (λ m. m * (long + 1)) many

-- the paths below the next one
pub path-spread : (long n s : ℕ) (numbers : List ℕ) (row : ℕ) (base after path : List ℕ) → row < n → path ≡ take long (drop (row * long) numbers) → after ≡ base ++ joined (longer_below s path)
    → after ++ joined (flat_map (longer_below s) (rows_left long n numbers (row + 1))) ≡ base ++ joined (flat_map (longer_below s) (rows_left long n numbers row))
path-spread long n s numbers row base after path h p more =
    let rest = flat_map (longer_below s) (rows_left long n numbers (row + 1)) in
    ap (λ (xs : List ℕ). xs ++ joined rest) more
    ∙ append_assoc base (joined (longer_below s path)) (joined rest)
    ∙ ap (λ (xs : List ℕ). base ++ xs) (sym (flat_map-append (λ row. row) (longer_below s path) rest))
    ∙ ap (λ (p : List ℕ). base ++ joined (longer_below s p ++ rest)) p
    ∙ ap (λ rows. base ++ joined (flat_map (longer_below s) rows)) (sym (rows-next long n numbers row h))

-- ---- how many

pub spread-many : (sizes : List ℕ) (paths : List (List ℕ)) → length (spread paths sizes) ≡ multiplied (length paths) sizes
spread-many [] paths = refl
spread-many (s ∷ sizes) paths = spread-many sizes (flat_map (longer_below s) paths) ∙ ap (λ n. multiplied n sizes) (level-many s paths)

pub spread-long : (sizes : List ℕ) (long : ℕ) (paths : List (List ℕ)) → Each (λ p. length p ≡ long) paths → Each (λ p. length p ≡ long + length sizes) (spread paths sizes)
spread-long [] long paths h = let same : long ≡ long + 0 = omega arith in subst (λ n. Each (λ p. length p ≡ n) paths) same h
spread-long (s ∷ sizes) long paths h =
    let same : long + 1 + length sizes ≡ long + suc (length sizes) = omega arith in
    subst (λ n. Each (λ p. length p ≡ n) (spread (flat_map (longer_below s) paths) sizes)) same
    (spread-long sizes (long + 1) (flat_map (longer_below s) paths) (level-long s long paths h))

pub next-size : (sizes : List ℕ) (level : ℕ) → level < length sizes → drop level sizes ≡ slice_index sizes level ∷ drop (level + 1) sizes
next-size sizes level h = drop_more sizes level 0 h

-- no fewer than there were
pub times-least : (n s : ℕ) → 1 ≤ s → n ≤ n * s
times-least n zero h = absurd (omega (arith, h))
times-least n (suc s) h = let more : n * suc s ≡ n + n * s = grind arith in omega (arith, more)

-- where each size is at least 1, there are no fewer below
multiplied-least : (n : ℕ) (sizes : List ℕ) → Each (λ s. 1 ≤ s) sizes → n ≤ multiplied n sizes
multiplied-least n [] h = omega arith
multiplied-least n (s ∷ sizes) h =
    let more = multiplied-least (n * s) sizes h.1 in
    let here = times-least n s h.0 in
    omega (arith, here, more)

Each-drop : (Q : ℕ → Type 0) (k : ℕ) (xs : List ℕ) → Each Q xs → Each Q (drop k xs)
Each-drop Q zero xs h = h
Each-drop Q (suc k) [] h = tt
Each-drop Q (suc k) (x ∷ xs) h = Each-drop Q k xs h.1

all-there : (p : ℕ → Bool) (xs : List ℕ) (n : ℕ) → list_all p xs ≡ true → n < length xs → p (slice_index xs n) ≡ true
all-there p [] n h l = absurd (omega (arith, l))
all-there p (x ∷ xs) zero h l = (and_parts (p x) (list_all p xs) h).0
all-there p (x ∷ xs) (suc n) h l = all-there p xs n (and_parts (p x) (list_all p xs) h).1 (omega (arith, l))

-- the sizes of a well formed tensor are at least 1
sizes-some : (t : Tensor) → is_well_formed t ≡ true → Each (λ s. 1 ≤ s) (items_at t.dims t.order)
sizes-some t formed =
    let rest = (and_parts (nat_le (length t.dims) 8) _ formed).1 in
    let dims = and_parts (list_all is_dimension t.dims) _ rest in
    let order = (and_parts (Rattle.std.specs.Prelude.nat_eq (length t.formats) (length t.dims)) _ dims.1).1 in
    Each-map (λ s. 1 ≤ s) (slice_index t.dims) (λ m. nat_lt m (length t.dims) ≡ true)
    (λ m inside.
    let passed = all-there is_dimension t.dims m dims.0 (grind (arith, nat_tests, inside)) in
    grind (arith, nat_tests, passed))
    t.order (each-passes (λ m. nat_lt m (length t.dims)) t.order (order-in-range (length t.dims) t.order order))

pub spread-least : (t : Tensor) (level n : ℕ) → is_well_formed t ≡ true → n ≤ multiplied n (drop level (items_at t.dims t.order))
spread-least t level n formed = multiplied-least n (drop level (items_at t.dims t.order)) (Each-drop (λ s. 1 ≤ s) level (items_at t.dims t.order) (sizes-some t formed))
