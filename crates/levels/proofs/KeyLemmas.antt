-- Numbers with a digit for each coordinate are in the order of the coordinates.
use Rattle.std.proofs.Common.{◌≡◌, ℕ, suc, ◌+◌, ◌*◌, ◌<◌, ◌≤◌, ◌⊎◌, inl, inr, Bool, true, false, cond, ◌&&◌, ◌||◌, List, [], ◌∷◌, length, take, drop, get_or, eqb, ltb, refl, ap, sym, subst, ◌∙◌, arith}
use Rattle.std.specs.declared.cmp.Ordering.TheVariants.{Less, Equal, Greater}
use Rattle.std.specs.Ordering.{is_lt, nat_cmp}
use Rattle.std.specs.Cmp.{nat_cmp_total}
use Rattle.std.specs.List.Sorted.{IsSortedByKey}
use Rattle.std.specs.Prelude.{slice_index_or}
use mathlib.Core.List.{map}
use Rattle.std.proofs.Math.Nat.{mul-le-mul_right}
use Rattle.std.proofs.lemmas.Bool.{cases_order}
use Rattle.std.proofs.lemmas.Bool.Decides.{nat_tests}
use Rattle.std.proofs.lemmas.List.{get_or-map, length-map}
use Rattle.std.proofs.lemmas.List.Sorted.{ranks_by, sorted_far}
use Rattle.sam_base.specs.Each.{Each}
use Rattle.sam_model.specs.declared.tensors.Tensor.{Tensor}
use Rattle.sam_model.specs.declared.tensors.Entries.{Entries}
use Rattle.sam_model.specs.Lists.{smaller, within, items_at}
use Rattle.sam_model.specs.Tensors.{entry_list, stored_as}
use Rattle.levels.specs.declared.keys.Key.{Key}
use Rattle.levels.specs.Keys.{packed, weight, digits, key_entry, IsKey, AreInOrder}
use Rattle.levels.specs.Placed.{InOrder}
use Rattle.levels.specs.Matches.{IsStorable, Matches}
use Rattle.levels.specs.Sorted.{Sorted}
use Rattle.levels.proofs.DigitLemmas.{below-size, length-digits, digits-packed, packed-small}
use Rattle.levels.proofs.EntryLemmas.{entries-fit, length-stored, length-entry_list, entry-at}
use Rattle.sam_model.proofs.Lists.{Each-weaker}
use Rattle.levels.proofs.Growth.{Each-get}
use Rattle.levels.proofs.Orders.{and-right}
use Rattle.levels.proofs.SortLemmas.{Sorted-from-places, Sorted-map, Each-permutation}

-- ---- digits decide one after another

less : (a b s c d : ℕ) → a < b → c < s → a * s + c < b * s + d
less a b s c d h l =
    let k : suc a * s ≤ b * s = mul-le-mul_right s (omega arith) in
    let m : suc a * s ≡ a * s + s = grind arith in
    omega (arith, k, m, l)

before-all : (p q a b : ℕ) (r v : Bool) → p < q → a < b → (ltb p q || (eqb p q && r)) ≡ (ltb a b || (eqb a b && v))
before-all p q a b r v h k = grind (arith, nat_tests)

behind-all : (p q a b : ℕ) (r v : Bool) → q < p → b < a → (ltb p q || (eqb p q && r)) ≡ (ltb a b || (eqb a b && v))
behind-all p q a b r v h k = grind (arith, nat_tests)

level : (m c d a : ℕ) (r : Bool) → (ltb (m + c) (m + d) || (eqb (m + c) (m + d) && r)) ≡ (ltb a a || (eqb a a && (ltb c d || (eqb c d && r))))
level m c d a r = grind (arith, nat_tests)

digit : (a b s c d : ℕ) (r : Bool) → c < s → d < s
    → (ltb (a * s + c) (b * s + d) || (eqb (a * s + c) (b * s + d) && r)) ≡ (ltb a b || (eqb a b && (ltb c d || (eqb c d && r))))
digit a b s c d r h k = by_case (cases_order a b)
  where
    by_case : (a ≡ b) ⊎ ((a < b) ⊎ (b < a)) → (ltb (a * s + c) (b * s + d) || (eqb (a * s + c) (b * s + d) && r)) ≡ (ltb a b || (eqb a b && (ltb c d || (eqb c d && r))))
    by_case (inl e) =
        subst (λ (n : ℕ). (ltb (a * s + c) (n * s + d) || (eqb (a * s + c) (n * s + d) && r)) ≡ (ltb a n || (eqb a n && (ltb c d || (eqb c d && r))))) e
        (level (a * s) c d a r)
    by_case (inr (inl l)) = before-all _ _ a b r _ (less a b s c d l h) l
    by_case (inr (inr l)) = behind-all _ _ a b r _ (less b a s d c l k) l

alone : (a b : ℕ) → ltb a b ≡ (ltb a b || (eqb a b && false))
alone a b = grind (arith, nat_tests)

packed-order : (sizes x y : List ℕ) (a b : ℕ) → length x ≡ length sizes → length y ≡ length sizes → within sizes x ≡ true → within sizes y ≡ true
    → ltb (packed a sizes x) (packed b sizes y) ≡ (ltb a b || (eqb a b && smaller x y))
packed-order [] [] [] a b e f h k = alone a b
packed-order [] (c ∷ x) y a b e f h k = absurd (omega (arith, e))
packed-order [] [] (d ∷ y) a b e f h k = absurd (omega (arith, f))
packed-order (s ∷ sizes) [] y a b e f h k = absurd (omega (arith, e))
packed-order (s ∷ sizes) (c ∷ x) [] a b e f h k = absurd (omega (arith, f))
packed-order (s ∷ sizes) (c ∷ x) (d ∷ y) a b e f h k =
    packed-order sizes x y (a * s + c) (b * s + d) (omega (arith, e)) (omega (arith, f)) (and-right (ltb c s) (within sizes x) h) (and-right (ltb d s) (within sizes y) k)
    ∙ digit a b s c d (smaller x y) (below-size c s (within sizes x) h) (below-size d s (within sizes y) k)

-- ---- keys

lt-cmp : (x y : ℕ) → is_lt (nat_cmp x y) ≡ ltb x y
lt-cmp x y = by_case (ltb x y) (eqb x y)
  where
    by_case : (b c : Bool) → is_lt (cond b Less (cond c Equal Greater)) ≡ b
    by_case true c = refl
    by_case false true = refl
    by_case false false = refl

pub no-key : Key
no-key = record { number = 0; value = 0 }

module _ (t : Tensor) where
  pub key-smaller : (x y : Key) → IsKey t x → IsKey t y → smaller (key_entry t x).0 (key_entry t y).0 ≡ ltb x.number y.number
  key-smaller x y h k =
      let sizes = items_at t.dims t.order in
      sym (packed-order sizes (key_entry t x).0 (key_entry t y).0 0 0 (length-digits sizes x.number) (length-digits sizes y.number) h.inside k.inside)
      ∙ ap (λ n. ltb n (packed 0 sizes (key_entry t y).0)) (sym h.number) ∙ ap (λ n. ltb x.number n) (sym k.number)

  pub keys-ascend : (keys : List Key) → Each (IsKey t) keys → IsSortedByKey (λ (key : Key). key.number) nat_cmp keys → Sorted (λ x y. smaller y.0 x.0 ≡ false) (map (key_entry t) keys)
  keys-ascend keys are up =
      Sorted-map (λ (x y : Key). smaller (key_entry t y).0 (key_entry t x).0 ≡ false) (λ x y. smaller y.0 x.0 ≡ false) (key_entry t) (λ x y h. h) keys
      (Sorted-from-places (λ (x y : Key). smaller (key_entry t y).0 (key_entry t x).0 ≡ false) no-key keys (λ i j l m.
      key-smaller (get_or keys j no-key) (get_or keys i no-key) (Each-get (IsKey t) keys j no-key m are) (Each-get (IsKey t) keys i no-key (omega arith) are)
      ∙ sym (lt-cmp (get_or keys j no-key).number (get_or keys i no-key).number)
      ∙ sorted_far (λ (x y : Key). is_lt (nat_cmp x.number y.number)) (ranks_by nat_cmp_total (λ (key : Key). key.number)) keys up i j no-key (omega arith) m))

module _ (t : Tensor) (e : Entries) (ok : IsStorable t) (fits : Matches t e) where
  -- the entry of a number, as its coordinates stand in the file
  pub stored-at : (n : ℕ) → n < length e.values → slice_index_or (stored_as t e).entries n ([], 0) ≡ (items_at (take e.arity (drop (n * e.arity) e.coords)) t.order, get_or e.values n 0)
  stored-at n h =
      let inside : n < length (entry_list e.arity e.coords e.values) = rw (length-entry_list e.arity e.coords e.values) h in
      get_or-map (λ entry. (items_at entry.0 t.order, entry.1)) (entry_list e.arity e.coords e.values) n ([], 0) ([], 0) inside
      ∙ ap (λ entry. (items_at entry.0 t.order, entry.1)) (entry-at e.arity e.coords e.values n ([], 0) h)

  pub record Keyed (n : ℕ) (key : Key) : Type 0 where
    pub is_key : IsKey t key
    pub entry : key_entry t key ≡ slice_index_or (stored_as t e).entries n ([], 0)

  -- a number of an entry's coordinates, and its value, are its key
  pub key-of : (n : ℕ) (key : Key) → n < length e.values → key.number ≡ packed 0 (items_at t.dims t.order) (slice_index_or (stored_as t e).entries n ([], 0)).0
      → key.value ≡ (slice_index_or (stored_as t e).entries n ([], 0)).1 → Keyed n key
  key-of n key there number value =
      let sizes = items_at t.dims t.order in
      let entry = slice_index_or (stored_as t e).entries n ([], 0) in
      let all : length (stored_as t e).entries ≡ length e.values = length-stored t e in
      let fit : (length entry.0 ≡ length sizes) × (within sizes entry.0 ≡ true)
      = Each-get (λ entry. (length entry.0 ≡ length sizes) × (within sizes entry.0 ≡ true)) (stored_as t e).entries n ([], 0) (omega (arith, all, there)) (entries-fit t e ok fits) in
      let same : digits sizes key.number ≡ entry.0 = ap (digits sizes) number ∙ digits-packed sizes entry.0 fit.0 fit.1 in
      record {
        is_key = record {
          small = subst (λ (m : ℕ). m < weight sizes) (sym number) (packed-small sizes entry.0 fit.0 fit.1);
          inside = ap (within sizes) same ∙ fit.1;
          number = number ∙ ap (packed 0 sizes) (sym same);
        };
        entry = pair same value;
      }
    where
      pair : {a b : List ℕ} {v w : ℕ} → a ≡ b → v ≡ w → ◌≡◌ {A = List ℕ × ℕ} (a, v) (b, w)
      pair f g = cc

  -- entries of the tensor that ascend are in order
  pub in-order : (entries : List (List ℕ × ℕ)) → AreInOrder t e entries → InOrder record { formats = t.formats; sizes = items_at t.dims t.order; entries = entries }
  in-order entries h =
      let fit = Each-permutation (λ entry. (length entry.0 ≡ length (items_at t.dims t.order)) × (within (items_at t.dims t.order) entry.0 ≡ true)) ([], 0)
      (stored_as t e).entries entries h.same (entries-fit t e ok fits) in
      let sizes = length-map t.order (λ m. get_or t.dims m 0) in
      record {
        formats = (let a = ok.formats in let b = ok.levels in omega arith);
        long = Each-weaker (λ entry. (length entry.0 ≡ length (items_at t.dims t.order)) × (within (items_at t.dims t.order) entry.0 ≡ true)) (λ entry. length entry.0 ≡ length (items_at t.dims t.order)) (λ entry h. h.0) entries fit;
        inside = Each-weaker (λ entry. (length entry.0 ≡ length (items_at t.dims t.order)) × (within (items_at t.dims t.order) entry.0 ≡ true)) (λ entry. within (items_at t.dims t.order) entry.0 ≡ true) (λ entry h. h.1) entries fit;
        sorted = h.sorted;
      }
