-- Rows in order, and lists with the same entries.
use Rattle.std.proofs.Common.{◌≡◌, ℕ, zero, suc, ◌+◌, ◌*◌, ◌%◌, ◌^◌, ◌<◌, ◌⊎◌, inl, inr, Bool, true, false, cond, ◌&&◌, ◌||◌, List, [], ◌∷◌, ◌++◌, length, take, get_or, eqb, ltb, refl, ap, sym, subst, ◌∙◌, arith, Ordering}
use Rattle.std.specs.declared.cmp.Ordering.TheVariants.{Less, Equal, Greater}
use Rattle.std.specs.Ordering.{is_lt, nat_cmp, ordering_then}
use Rattle.std.specs.Cmp.Lexicographic.{slice_cmp, lists_total}
use Rattle.std.specs.Cmp.{nat_cmp_total, nat_cmp_is}
use Rattle.std.specs.List.Sorted.{IsPermutation, IsSortedByKey}
use mathlib.Core.List.{map}
use Rattle.std.proofs.lemmas.Bool.{cases_order}
use Rattle.std.proofs.lemmas.Bool.Decides.{nat_tests}
use Rattle.std.proofs.lemmas.List.{map_push, take_more}
use Rattle.std.proofs.lemmas.List.Sorted.{IsPermutation-append_left, ranks_by, sorted_far, All-permutation, list_any-IsPermutation, sum_by-IsPermutation}
use Rattle.std.proofs.lemmas.List.Recursion.{is_sum_by}
use Rattle.sam_model.specs.Lists.{smaller, same_list, total, tuples}
use Rattle.sam_model.specs.Tensors.{Stored, compressed_until, is_stored, value_at, stored_prefixes}
use Rattle.levels.specs.declared.rows.Row.{Row}
use Rattle.sam_base.specs.Each.{Each}
use Rattle.sam_model.proofs.Lists.{Each-mapped, Each-weaker, filter-ext}
use Rattle.levels.specs.Sorted.{Sorted}
use Rattle.levels.specs.Rows.{outer, row_entry}
use Rattle.levels.proofs.Growth.{Each-get}
use Rattle.levels.proofs.EntryLemmas.{Each-from-places}

-- ---- the order of rows

step : (x y : ℕ) (o : Ordering) → is_lt (ordering_then (nat_cmp x y) o) ≡ (ltb x y || (eqb x y && is_lt o))
step x y o = by_case (ltb x y) (eqb x y) refl refl
  where
    apart : (x y : ℕ) → ltb x y ≡ true → eqb x y ≡ true → ⊥
    apart x y e f = grind (arith, nat_tests)

    by_case : (b c : Bool) → ltb x y ≡ b → eqb x y ≡ c → is_lt (ordering_then (cond b Rattle.std.specs.declared.cmp.Ordering.TheVariants.Less (cond c Rattle.std.specs.declared.cmp.Ordering.TheVariants.Equal Rattle.std.specs.declared.cmp.Ordering.TheVariants.Greater)) o) ≡ (b || (c && is_lt o))
    by_case true c e f = refl
    by_case false true e f = refl
    by_case false false e f = refl

pub cmp-smaller : (x y : List ℕ) → is_lt (slice_cmp nat_cmp x y) ≡ smaller x y
cmp-smaller [] [] = refl
cmp-smaller [] (y ∷ ys) = refl
cmp-smaller (x ∷ xs) [] = refl
cmp-smaller (x ∷ xs) (y ∷ ys) = step x y (slice_cmp nat_cmp xs ys) ∙ ap (λ b. ltb x y || (eqb x y && b)) (cmp-smaller xs ys)

take-smaller : (n : ℕ) (x y : List ℕ) → smaller (take n x) (take n y) ≡ true → smaller x y ≡ true
take-smaller zero x y h = cc
take-smaller (suc n) [] [] h = cc
take-smaller (suc n) [] (b ∷ y) h = refl
take-smaller (suc n) (a ∷ x) [] h = cc
take-smaller (suc n) (a ∷ x) (b ∷ y) h = heads a b (smaller (take n x) (take n y)) (smaller x y) h (take-smaller n x y)
  where
    heads : (a b : ℕ) (c d : Bool) → (ltb a b || (eqb a b && c)) ≡ true → (c ≡ true → d ≡ true) → (ltb a b || (eqb a b && d)) ≡ true
    heads a b c d h f = grind (arith, nat_tests)

not-smaller : (n : ℕ) (x y : List ℕ) → smaller x y ≡ false → smaller (take n x) (take n y) ≡ false
not-smaller n x y h = by_case (smaller (take n x) (take n y)) refl
  where
    by_case : (b : Bool) → smaller (take n x) (take n y) ≡ b → smaller (take n x) (take n y) ≡ false
    by_case false e = e
    by_case true e = let t = take-smaller n x y e in cc

pub Sorted-from-places : {A : Type 0} (R : A → A → Type 0) (d : A) (xs : List A) → ((i j : ℕ) → i < j → j < length xs → R (get_or xs i d) (get_or xs j d)) → Sorted R xs
Sorted-from-places R d [] h = tt
Sorted-from-places R d (x ∷ xs) h =
    (Each-from-places (R x) d xs (λ n l. h 0 (suc n) (omega arith) (omega arith)), Sorted-from-places R d xs (λ i j l m. h (suc i) (suc j) (omega arith) (omega arith)))

pub Sorted-map : {A B : Type 0} (R : A → A → Type 0) (S : B → B → Type 0) (f : A → B) → ((x y : A) → R x y → S (f x) (f y)) → (xs : List A) → Sorted R xs → Sorted S (map f xs)
Sorted-map R S f e [] h = tt
Sorted-map R S f e (x ∷ xs) h = (Each-mapped (S (f x)) f xs (Each-weaker (R x) (λ y. S (f x) (f y)) (λ y r. e x y r) xs h.0), Sorted-map R S f e xs h.1)

pub sorted-entries : (n : ℕ) (rows : List Row) → IsSortedByKey (λ (row : Row). row.coordinates) (slice_cmp nat_cmp) rows → Sorted (λ x y. smaller y.0 x.0 ≡ false) (map (row_entry n) rows)
sorted-entries n rows up =
    Sorted-map (λ (x y : Row). is_lt (slice_cmp nat_cmp y.coordinates x.coordinates) ≡ false) (λ x y. smaller y.0 x.0 ≡ false) (row_entry n)
    (λ x y h. not-smaller n y.coordinates x.coordinates (sym (cmp-smaller y.coordinates x.coordinates) ∙ h)) rows
    (Sorted-from-places (λ (x y : Row). is_lt (slice_cmp nat_cmp y.coordinates x.coordinates) ≡ false) record { coordinates = []; value = 0 } rows
    (λ i j l m. sorted_far (λ (x y : Row). is_lt (slice_cmp nat_cmp x.coordinates y.coordinates)) (ranks_by (lists_total nat_cmp_total) (λ (row : Row). row.coordinates)) rows up i j record { coordinates = []; value = 0 } (omega arith) m))

-- ---- two coordinates as one number

-- numbers that are compared as one are compared one after the other
as-one : (a b c d : ℕ) (o : Ordering) → b < 2 ^ 32 → d < 2 ^ 32 → (a * 2 ^ 32 + b ≡ c * 2 ^ 32 + d → ⊥)
    → nat_cmp (a * 2 ^ 32 + b) (c * 2 ^ 32 + d) ≡ ordering_then (nat_cmp a c) (ordering_then (nat_cmp b d) o)
as-one a b c d o small small' apart = by_case (cases_order a c) (cases_order b d)
  where
    decided : (p q r s : Ordering) → p ≡ s → q ≡ s → ordering_then s r ≡ s → p ≡ ordering_then q r
    decided p q r s e f g = e ∙ sym g ∙ ap (λ k. ordering_then k r) (sym f)

    level : (p q r : Ordering) → q ≡ Equal → p ≡ r → p ≡ ordering_then q r
    level p q r e f = f ∙ ap (λ k. ordering_then k r) (sym e)

    by_case : (a ≡ c) ⊎ ((a < c) ⊎ (c < a)) → (b ≡ d) ⊎ ((b < d) ⊎ (d < b))
        → nat_cmp (a * 2 ^ 32 + b) (c * 2 ^ 32 + d) ≡ ordering_then (nat_cmp a c) (ordering_then (nat_cmp b d) o)
    by_case (inl e) (inl f) = absurd (apart (omega arith))
    by_case (inl e) (inr (inl f)) =
        level _ _ _ (sym (nat_cmp_is a c Equal e)) (decided _ _ o Less (sym (nat_cmp_is (a * 2 ^ 32 + b) (c * 2 ^ 32 + d) Less (omega arith))) (sym (nat_cmp_is b d Less f)) refl)
    by_case (inl e) (inr (inr f)) =
        level _ _ _ (sym (nat_cmp_is a c Equal e)) (decided _ _ o Greater (sym (nat_cmp_is (a * 2 ^ 32 + b) (c * 2 ^ 32 + d) Greater (omega arith))) (sym (nat_cmp_is b d Greater f)) refl)
    by_case (inr (inl e)) f = decided _ _ _ Less (sym (nat_cmp_is (a * 2 ^ 32 + b) (c * 2 ^ 32 + d) Less (omega arith))) (sym (nat_cmp_is a c Less e)) refl
    by_case (inr (inr e)) f = decided _ _ _ Greater (sym (nat_cmp_is (a * 2 ^ 32 + b) (c * 2 ^ 32 + d) Greater (omega arith))) (sym (nat_cmp_is a c Greater e)) refl

pub outer-cmp : (x y : List ℕ) → 1 < length x → 1 < length y → get_or x 1 0 < 2 ^ 32 → get_or y 1 0 < 2 ^ 32 → (outer x ≡ outer y → ⊥)
    → nat_cmp (outer x) (outer y) ≡ slice_cmp nat_cmp x y
outer-cmp [] y h k small small' apart = absurd (omega arith)
outer-cmp (a ∷ []) y h k small small' apart = absurd (omega arith)
outer-cmp (a ∷ b ∷ x) [] h k small small' apart = absurd (omega arith)
outer-cmp (a ∷ b ∷ x) (c ∷ []) h k small small' apart = absurd (omega arith)
outer-cmp (a ∷ b ∷ x) (c ∷ d ∷ y) h k small small' apart = as-one a b c d (slice_cmp nat_cmp x y) small small' apart

-- ---- the same entries in another order

pub Each-permutation : {A : Type 0} (Q : A → Type 0) (d : A) (xs ys : List A) → IsPermutation xs ys → Each Q xs → Each Q ys
Each-permutation Q d xs ys same h = Each-from-places Q d ys (λ n l. All-permutation Q xs ys same (λ k e l. Each-get Q xs k e l h) n d l)

module _ (a : Stored) (entries : List (List ℕ × ℕ)) (same : IsPermutation a.entries entries) where
  abbrev pub moved : Stored
  moved = record { formats = a.formats; sizes = a.sizes; entries = entries }

  pub stored-same : (p : List ℕ) → is_stored a p ≡ is_stored moved p
  stored-same p =
      ap (λ b. eqb (compressed_until (length p) a.formats) 0 || b)
      (list_any-IsPermutation (λ entry. same_list (take (compressed_until (length p) a.formats) entry.0) (take (compressed_until (length p) a.formats) p)) a.entries entries same)

  total-same : (f : List ℕ × ℕ → ℕ) → total f a.entries ≡ total f entries
  total-same f =
      is_sum_by (total f) f refl (λ _ _. refl) a.entries
      ∙ sym (sum_by-IsPermutation f a.entries entries same)
      ∙ sym (is_sum_by (total f) f refl (λ _ _. refl) entries)

  pub value-same : (c : List ℕ) → value_at a c ≡ value_at moved c
  value-same c = ap (λ n. n % 2 ^ 64) (total-same (λ entry. cond (same_list entry.0 c) entry.1 0))

  pub prefixes-same : (k : ℕ) → stored_prefixes a k ≡ stored_prefixes moved k
  prefixes-same k = filter-ext (is_stored a) (is_stored moved) stored-same (tuples (take k a.sizes))

-- ---- one item more, wherever it goes

pub one-more : {A : Type 0} (f : A → List ℕ × ℕ) (entries : List (List ℕ × ℕ)) (k : ℕ) (xs : List A) (x : A) (xs' : List A) → k < length entries
    → IsPermutation (take k entries) (map f xs) → f x ≡ get_or entries k ([], 0) → xs' ≡ xs ++ x ∷ []
    → IsPermutation (take (k + 1) entries) (map f xs')
one-more f entries k xs x xs' inside same e pushed =
    let whole : take (k + 1) entries ≡ take k entries ++ f x ∷ [] = take_more entries k ([], 0) inside ∙ ap (λ (y : List ℕ × ℕ). take k entries ++ y ∷ []) (sym e) in
    let made : map f xs' ≡ map f xs ++ f x ∷ [] = ap (map f) pushed ∙ map_push f xs x in
    subst (λ (es : List (List ℕ × ℕ)). IsPermutation es (map f xs')) (sym whole)
    (subst (λ (es : List (List ℕ × ℕ)). IsPermutation (take k entries ++ f x ∷ []) es) (sym made)
    (IsPermutation-append_left (f x ∷ []) (take k entries) (map f xs) same))
