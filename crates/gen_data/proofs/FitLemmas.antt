-- The workload's entries fit its matrices, and few are stored.
use Rattle.std.proofs.Common.{◌≡◌, ◌∙◌, ◌++◌, ◌+◌, ◌*◌, ◌%◌, ◌<◌, ◌≤◌, ℕ, suc, zero, Bool, true, false, ◌&&◌, ◌||◌, cond, length, take, drop, ap, ap₂, sym, subst, refl, List, [], ◌∷◌, map, arith, ltb, ◌==◌, length-append, codes}
use Rattle.std.specs.Prelude.{slice_get, Some}
use Rattle.std.specs.List.{flat_map, filter, list_all, list_any, range_with_len}
use Rattle.std.proofs.lemmas.Bool.Decides.{nat_tests}
use Rattle.std.proofs.lemmas.Nat.{mod_below}
use Rattle.std.proofs.lemmas.List.{length-map}
use Rattle.std.proofs.lemmas.List.Concat.{flat_map_single}
use Rattle.std.proofs.lemmas.List.FromFn.{length-map-range_with_len}
use Rattle.std.proofs.lemmas.List.Sums.{length-filter, count_by-le-length}
use Rattle.sam_base.specs.Each.{Each}
use Rattle.sam_base.specs.declared.TheConstants.{LARGE_MOST, POSITIONS_MOST}
use Rattle.sam_model.specs.declared.tensors.Format.TheVariants.{Dense, Compressed}
use Rattle.sam_model.specs.declared.tensors.Tensor.{Tensor}
use Rattle.sam_model.specs.declared.tensors.Entries.{Entries}
use Rattle.sam_model.specs.declared.program.Program.{Program}
use Rattle.sam_model.specs.Accepted.{is_dimension, is_well_formed}
use Rattle.sam_model.specs.Program.{accepted}
use Rattle.sam_model.specs.Lists.{below, items_at, within, tuples, same_list, smaller}
use Rattle.sam_model.specs.Tensors.{Stored, entry_list, stored_as, stored_prefixes, is_stored}
use Rattle.sam_model.proofs.Lists.{Each-flat_map, Each-range, Each-weaker, filter-ext-each, filter-never, filter-none-each}
use Rattle.sam_model.proofs.Tuples.{tuples-long}
use Rattle.levels.proofs.Ascending.{Ascending, tuples-ascend}
use Rattle.sam_model.proofs.Orders.{same_list-true}
use Rattle.levels.proofs.Orders.{smaller-irrefl}
use Rattle.gen_data.specs.declared.matrices.Matrix.{Matrix}
use Rattle.gen_data.specs.declared.matrices.Matrix.TheVariants.{B, C}
use Rattle.gen_data.specs.Workload.{square, entry_of, row_entries, matrix_rows, matrix_entries, workload, workload_entries, MayBeStored}

-- ---- each entry has two coordinates within the matrix

abbrev IsWithin : ℕ → List ℕ × ℕ → Type 0
IsWithin n entry = (length entry.0 ≡ 2) × (within (n ∷ n ∷ []) entry.0 ≡ true)

both_within : (n i c : ℕ) → i < n → c < n → (ltb i n && (ltb c n && true)) ≡ true
both_within n i c row column = grind (arith, nat_tests)

entry_within : (m : Matrix) (n i s : ℕ) → i < n → IsWithin n (entry_of m n i s)
entry_within B n i s row = (refl, both_within n i ((i * i + 7 * s) % n) row (mod_below (i * i + 7 * s) n (omega arith)))
entry_within C n i s row = (refl, both_within n i ((i * i + 5 * s) % n) row (mod_below (i * i + 5 * s) n (omega arith)))

rows_within : (m : Matrix) (n : ℕ) → Each (IsWithin n) (matrix_rows m n)
rows_within m n =
    Each-flat_map (λ (i : ℕ). i < n) (IsWithin n) (row_entries m n)
    (λ i row. (entry_within m n i 0 row, (entry_within m n i 1 row, (entry_within m n i 2 row, (entry_within m n i 3 row, tt)))))
    (below n) (Each-range 0 n n (omega arith))

-- ---- entries that are kept one behind the other are these

front : (cs rest : List ℕ) → length cs ≡ 2 → (take 2 (cs ++ rest) ≡ cs) × (drop 2 (cs ++ rest) ≡ rest)
front [] rest long = absurd (omega arith)
front (a ∷ []) rest long = absurd (omega arith)
front (a ∷ b ∷ []) rest long = (refl, refl)
front (a ∷ b ∷ c ∷ more) rest long = absurd (omega arith)

kept : (n : ℕ) (rows : List (List ℕ × ℕ)) → Each (IsWithin n) rows → entry_list 2 (flat_map (λ entry. entry.0) rows) (map (λ entry. entry.1) rows) ≡ rows
kept n [] inside = refl
kept n (r ∷ rows) inside =
    let parts = front r.0 (flat_map (λ (entry : List ℕ × ℕ). entry.0) rows) inside.0.0 in
    ap₂ (λ (cs rest : List ℕ). (cs, r.1) ∷ entry_list 2 rest (map (λ (entry : List ℕ × ℕ). entry.1) rows)) parts.0 parts.1
    ∙ ap (λ (l : List (List ℕ × ℕ)). r ∷ l) (kept n rows inside.1)

length-coords : (n : ℕ) (rows : List (List ℕ × ℕ)) → Each (IsWithin n) rows → length (flat_map (λ entry. entry.0) rows) ≡ 2 * length (map (λ entry. entry.1) rows)
length-coords n [] inside = refl
length-coords n (r ∷ rows) inside =
    let rest = length-coords n rows inside.1 in
    let first = inside.0.0 in
    let both = length-append r.0 (flat_map (λ (entry : List ℕ × ℕ). entry.0) rows) in
    omega arith

all_within : (n : ℕ) (rows : List (List ℕ × ℕ)) → Each (IsWithin n) rows → list_all (λ entry. within (n ∷ n ∷ []) entry.0) rows ≡ true
all_within n [] inside = refl
all_within n (r ∷ rows) inside = rw (inside.0.1) (all_within n rows inside.1)

-- ---- of ascending lists, at most one for each entry is met

filter_le : {A : Type 0} (p : A → Bool) (xs : List A) → length (filter p xs) ≤ length xs
filter_le p xs = let a = length-filter p xs in let b = count_by-le-length p xs in omega arith

-- no list after p is p
apart : (p q : List ℕ) → smaller p q ≡ true → same_list p q ≡ false
apart p q less = by_case (same_list p q) refl
  where
    by_case : (b : Bool) → same_list p q ≡ b → same_list p q ≡ false
    by_case false e = e
    by_case true e = let i = smaller-irrefl p in let less' : smaller p p ≡ true = subst (λ (l : List ℕ). smaller p l ≡ true) (sym (same_list-true p q e)) less in cc

one_met : (x : List ℕ) (ps : List (List ℕ)) → Ascending ps → length (filter (same_list x) ps) ≤ 1
one_met x [] up = omega arith
one_met x (p ∷ ps) up = by_case (one_met x ps up.1) (same_list x p) refl
  where
    by_case : length (filter (same_list x) ps) ≤ 1 → (b : Bool) → same_list x p ≡ b → length (cond b (p ∷ filter (same_list x) ps) (filter (same_list x) ps)) ≤ 1
    by_case rest false e = rest
    by_case rest true e =
        let x_is : x ≡ p = same_list-true x p e in
        let none : filter (same_list x) ps ≡ [] =
        filter-none-each (same_list x) ps (Each-weaker (λ q. smaller p q ≡ true) (λ q. same_list x q ≡ false) (λ q less. ap (λ (l : List ℕ). same_list l q) x_is ∙ apart p q less) ps up.0) in
        let count = ap length none in omega arith

either : {A : Type 0} (p q : A → Bool) (xs : List A) → length (filter (λ x. p x || q x) xs) ≤ length (filter p xs) + length (filter q xs)
either p q [] = omega arith
either p q (x ∷ xs) = by_case (either p q xs) (p x) (q x)
  where
    by_case : length (filter (λ x. p x || q x) xs) ≤ length (filter p xs) + length (filter q xs) → (a b : Bool)
        → length (cond (a || b) (x ∷ filter (λ x. p x || q x) xs) (filter (λ x. p x || q x) xs)) ≤ length (cond a (x ∷ filter p xs) (filter p xs)) + length (cond b (x ∷ filter q xs) (filter q xs))
    by_case rest true true = omega arith
    by_case rest true false = omega arith
    by_case rest false true = omega arith
    by_case rest false false = rest

met_few : (entries : List (List ℕ × ℕ)) (ps : List (List ℕ)) → Ascending ps → length (filter (λ p. list_any (λ entry. same_list (take 2 entry.0) p) entries) ps) ≤ length entries
met_few [] ps up = let none = ap length (filter-never (λ (p : List ℕ). false) (λ p. refl) ps) in omega arith
met_few (e ∷ es) ps up =
    let both = either (same_list (take 2 e.0)) (λ p. list_any (λ entry. same_list (take 2 entry.0) p) es) ps in
    let first = one_met (take 2 e.0) ps up in
    let more = met_few es ps up in
    omega arith

-- ---- what is stored

abbrev pub matrix : ℕ → List (List ℕ × ℕ) → Stored
matrix n entries = record { formats = Dense ∷ Compressed ∷ []; sizes = n ∷ n ∷ []; entries = entries }

module _ (n : ℕ) (entries : List (List ℕ × ℕ)) where
  stored_pair : (p : List ℕ) → length p ≡ 2 → is_stored (matrix n entries) p ≡ list_any (λ entry. same_list (take 2 entry.0) p) entries
  stored_pair [] long = absurd (omega arith)
  stored_pair (a ∷ []) long = absurd (omega arith)
  stored_pair (a ∷ b ∷ []) long = refl
  stored_pair (a ∷ b ∷ c ∷ more) long = absurd (omega arith)

  two : length (stored_prefixes (matrix n entries) 2) ≤ length entries
  two =
      let met = filter-ext-each (λ p. length p ≡ 2) (is_stored (matrix n entries)) (λ p. list_any (λ entry. same_list (take 2 entry.0) p) entries) stored_pair (tuples (n ∷ n ∷ [])) (tuples-long (n ∷ n ∷ [])) in
      let count = ap length met in
      let few = met_few entries (tuples (n ∷ n ∷ [])) (tuples-ascend (n ∷ n ∷ [])) in
      omega arith

  one : length (stored_prefixes (matrix n entries) 1) ≤ n
  one =
      let few = filter_le (is_stored (matrix n entries)) (tuples (n ∷ [])) in
      let count = ap length (flat_map_single (λ (c : ℕ). c ∷ []) (below n)) ∙ length-map-range_with_len (λ (c : ℕ). c ∷ []) 0 n in
      omega arith

  none : length (stored_prefixes (matrix n entries) 0) ≤ 1
  none = filter_le (is_stored (matrix n entries)) ([] ∷ [])

  pub few_stored : n ≤ POSITIONS_MOST → length entries ≤ POSITIONS_MOST → (k : ℕ) → k ≤ 2 → length (stored_prefixes (matrix n entries) k) ≤ POSITIONS_MOST
  few_stored small few zero least = let count = none in omega arith
  few_stored small few (suc zero) least = let count = one in omega arith
  few_stored small few (suc (suc zero)) least = let count = two in omega arith
  few_stored small few (suc (suc (suc k))) least = absurd (omega arith)

-- ---- the workload's matrices

length-rows : (m : Matrix) (n a k : ℕ) → length (flat_map (row_entries m n) (range_with_len a k)) ≡ 4 * k
length-rows m n a zero = refl
length-rows m n a (suc k) = let rest = length-rows m n (a + 1) k in omega arith

module _ (m : Matrix) (name : List ℕ) (n : ℕ) (least : 1 ≤ n) (most : n ≤ LARGE_MOST) where
  abbrev rows : List (List ℕ × ℕ)
  rows = matrix_rows m n

  these : entry_list 2 (matrix_entries m n).coords (matrix_entries m n).values ≡ rows
  these = kept n rows (rows_within m n)

  listed : (stored_as (square name n) (matrix_entries m n)).entries ≡ map (λ entry. (items_at entry.0 (0 ∷ 1 ∷ []), entry.1)) rows
  listed = ap (map (λ (entry : List ℕ × ℕ). (items_at entry.0 (0 ∷ 1 ∷ []), entry.1))) these

  many : length (stored_as (square name n) (matrix_entries m n)).entries ≤ POSITIONS_MOST
  many =
      let count = ap length listed ∙ length-map rows (λ (entry : List ℕ × ℕ). (items_at entry.0 (0 ∷ 1 ∷ []), entry.1)) ∙ length-rows m n 0 n in
      omega arith

  fits : (dimension : is_dimension n ≡ true) → is_well_formed (square name n) ≡ true
  fits dimension = rw dimension refl

  pub may_be_stored : is_dimension n ≡ true → MayBeStored (square name n) (matrix_entries m n)
  may_be_stored dimension = record {
    well_formed = fits dimension;
    arity = refl;
    whole = length-coords n rows (rows_within m n);
    inside = ap (list_all (λ (entry : List ℕ × ℕ). within (n ∷ n ∷ []) entry.0)) these ∙ all_within n rows (rows_within m n);
    few = few_stored n (stored_as (square name n) (matrix_entries m n)).entries (omega arith) many;
  }

-- ---- the workload

is_size : (n : ℕ) → 1 ≤ n → n ≤ LARGE_MOST → is_dimension n ≡ true
is_size n least most = grind (arith, nat_tests)

same_size : (n : ℕ) → (n == n) ≡ true
same_size n = grind (arith, nat_tests)

is_accepted : (n : ℕ) → 1 ≤ n → n ≤ LARGE_MOST → accepted (workload n) ≡ true
is_accepted n least most = let dimension = is_size n least most in let same = same_size n in simp (dimension, same) refl

both_same : {t u : Tensor} {e f : Entries} → t ≡ u → e ≡ f → MayBeStored t e → MayBeStored u f
both_same {t = t} {u = u} {e = e} {f = f} t_is e_is may = subst (MayBeStored u) e_is (subst (λ (v : Tensor). MayBeStored v e) t_is may)

all_may_be_stored : (n : ℕ) → 1 ≤ n → n ≤ LARGE_MOST → (k : ℕ) (t : Tensor) (e : Entries) → slice_get (workload n).tensors k ≡ Some t
    → slice_get (workload_entries n) k ≡ Some e → MayBeStored t e
all_may_be_stored n least most zero t e is_t is_e =
    let t_is : square (codes "B") n ≡ t = cc in
    let e_is : matrix_entries B n ≡ e = cc in
    both_same t_is e_is (may_be_stored B (codes "B") n least most (is_size n least most))
all_may_be_stored n least most (suc zero) t e is_t is_e =
    let t_is : square (codes "C") n ≡ t = cc in
    let e_is : matrix_entries C n ≡ e = cc in
    both_same t_is e_is (may_be_stored C (codes "C") n least most (is_size n least most))
all_may_be_stored n least most (suc (suc k)) t e is_t is_e = cc

-- the same of what is made
module _ (n : ℕ) (least : 1 ≤ n) (most : n ≤ LARGE_MOST) (p : Program) (made : p ≡ workload n) where
  pub made_accepted : accepted p ≡ true
  made_accepted = ap accepted made ∙ is_accepted n least most

  pub made_stored : (es : List Entries) → es ≡ workload_entries n → (k : ℕ) (t : Tensor) (e : Entries) → slice_get p.tensors k ≡ Some t → slice_get es k ≡ Some e → MayBeStored t e
  made_stored es es_made k t e is_t is_e =
      all_may_be_stored n least most k t e
      (ap (λ (q : Program). slice_get q.tensors k) (sym made) ∙ is_t)
      (ap (λ (l : List Entries). slice_get l k) (sym es_made) ∙ is_e)
