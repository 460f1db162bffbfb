-- The sum of the values at each rank.
use Rattle.std.proofs.Common.{◌≡◌, ℕ, zero, suc, ◌+◌, ◌%◌, ◌^◌, ◌<◌, ◌≤◌, ◌≢◌, false, cond, List, [], ◌∷◌, ◌++◌, length, take, get_or, set, replicate, eqb, refl, ap, sym, ◌∙◌, arith, add-zero, zero-add, length-set, get_or-set_same, get_or-set_other, inl, inr, ◌⊎◌}
use Rattle.std.specs.List.{range_with_len, zip}
use mathlib.Core.List.{map, map-map}
use Rattle.std.proofs.lemmas.Bool.Decides.{nat_tests}
use Rattle.std.proofs.lemmas.List.{take_more, take_all, same_lists}
use Rattle.std.proofs.lemmas.List.FromFn.{length-map-range_with_len, get_or-map-range_with_len}
use Rattle.std.proofs.Math.Nat.{mod-add-mod}
use Rattle.sam_model.specs.Lists.{total, below, same_list}
use Rattle.sam_model.specs.Tensors.{Stored, stored_prefixes, value_at}
use Rattle.sam_model.specs.Children.{values_of}
use Rattle.levels.specs.declared.rows.Row.{Row}
use Rattle.sam_base.specs.Each.{Each}
use Rattle.sam_model.proofs.Lists.{map-ext-each, Each-weaker}
use Rattle.levels.specs.Placed.{list_at, Placed}
use Rattle.levels.specs.Rows.{row_entry, sum_at, ranked_values}
use Rattle.levels.proofs.Orders.{eqb-same}
use Rattle.levels.proofs.Ascending.{Ascending, prefixes-ascend, same-place}
use Rattle.levels.proofs.PairLemmas.{below-inside}
use Rattle.levels.proofs.Steps.{by-places}

abbrev pub here : ℕ → ℕ × ℕ → ℕ
here r x = cond (eqb x.0 r) x.1 0

total-push : (r : ℕ) (xs : List (ℕ × ℕ)) (x : ℕ × ℕ) → total (here r) (xs ++ x ∷ []) ≡ total (here r) xs + here r x
total-push r [] x = grind arith
total-push r (y ∷ xs) x = let e = total-push r xs x in omega arith

sum-more : (q : List (ℕ × ℕ)) (n r : ℕ) → n < length q → sum_at (take (n + 1) q) r ≡ (sum_at (take n q) r + here r (get_or q n (0, 0))) % 2 ^ 64
sum-more q n r inside =
    ap (λ t. total (here r) t % 2 ^ 64) (take_more q n (0, 0) inside)
    ∙ ap (λ t. t % 2 ^ 64) (total-push r (take n q) (get_or q n (0, 0)))
    ∙ sym (mod-add-mod (total (here r) (take n q)) (2 ^ 64) (here r (get_or q n (0, 0))))

mod-twice : (n : ℕ) → (n % 2 ^ 64 + 0) % 2 ^ 64 ≡ n % 2 ^ 64
mod-twice n = mod-add-mod n (2 ^ 64) 0 ∙ ap (λ t. t % 2 ^ 64) (add-zero n)

same-or : (k r : ℕ) → (k ≡ r) ⊎ (k ≢ r)
same-or zero zero = inl refl
same-or zero (suc r) = inr (λ e. omega arith)
same-or (suc k) zero = inr (λ e. omega arith)
same-or (suc k) (suc r) = elim (same-or k r) [ inl e ↦ inl (ap suc e) | inr g ↦ inr (λ e. g (omega arith)) ]

not-here : (k r v : ℕ) → k ≢ r → cond (eqb r k) v 0 ≡ 0
not-here k r v g = ap (λ b. cond b v 0) (other r k (λ e. g (sym e)))
  where
    other : (r k : ℕ) → r ≢ k → eqb r k ≡ false
    other r k g = grind (arith, nat_tests)

-- one row more
pub values-more : (q : List (ℕ × ℕ)) (count n r v : ℕ) (values values' : List ℕ) → n < length q → get_or q n (0, 0) ≡ (r, v) → r < count
    → values ≡ map (sum_at (take n q)) (below count) → values' ≡ set values r ((get_or values r 0 + v) % 2 ^ 64) → values' ≡ map (sum_at (take (n + 1) q)) (below count)
values-more q count n r v values values' inside is small made written =
    let long : length values ≡ count = ap length made ∙ length-map-range_with_len (sum_at (take n q)) 0 count in
    let long' : length values' ≡ count = ap length written ∙ length-set values r ((get_or values r 0 + v) % 2 ^ 64) ∙ long in
    same_lists values' (map (sum_at (take (n + 1) q)) (below count)) (long' ∙ sym (length-map-range_with_len (sum_at (take (n + 1) q)) 0 count))
    (λ k d h.
    let l : k < count = omega arith in
    let old : get_or values k d ≡ sum_at (take n q) k = ap (λ t. get_or t k d) made ∙ get_or-map-range_with_len (sum_at (take n q)) 0 count k k d l (zero-add k) in
    let goal : get_or (map (sum_at (take (n + 1) q)) (below count)) k d ≡ (sum_at (take n q) k + here k (r, v)) % 2 ^ 64
    = get_or-map-range_with_len (sum_at (take (n + 1) q)) 0 count k k d l (zero-add k) ∙ sum-more q n k inside ∙ ap (λ x. (sum_at (take n q) k + here k x) % 2 ^ 64) is in
    ap (λ t. get_or t k d) written
    ∙ elim (same-or k r) [
      | inl e ↦ at-rank k d e l old
      | inr g ↦ get_or-set_other values r k ((get_or values r 0 + v) % 2 ^ 64) d g ∙ old
          ∙ sym (ap (λ t. (sum_at (take n q) k + t) % 2 ^ 64) (not-here k r v g) ∙ mod-twice (total (here k) (take n q)))
    ]
    ∙ sym goal)
  where
    at-rank : (k d : ℕ) → k ≡ r → k < count → get_or values k d ≡ sum_at (take n q) k → get_or (set values r ((get_or values r 0 + v) % 2 ^ 64)) k d ≡ (sum_at (take n q) k + here k (r, v)) % 2 ^ 64
    at-rank k d e l old =
        let long : length values ≡ count = ap length made ∙ length-map-range_with_len (sum_at (take n q)) 0 count in
        let was : get_or values r 0 ≡ sum_at (take n q) r = ap (λ t. get_or t r 0) made ∙ get_or-map-range_with_len (sum_at (take n q)) 0 count r r 0 small (zero-add r) in
        ap (λ i. get_or (set values r ((get_or values r 0 + v) % 2 ^ 64)) i d) e
        ∙ get_or-set_same values r ((get_or values r 0 + v) % 2 ^ 64) d (omega arith)
        ∙ ap (λ t. (t + v) % 2 ^ 64) was
        ∙ ap (λ t. (sum_at (take n q) r + t) % 2 ^ 64) (sym (ap (λ b. cond b v 0) (eqb-same r)))
        ∙ ap (λ i. (sum_at (take n q) i + here i (r, v)) % 2 ^ 64) (sym e)

pub values-none : (count : ℕ) → replicate count 0 ≡ map (sum_at []) (below count)
values-none count = from 0 count
  where
    from : (a n : ℕ) → replicate n 0 ≡ map (sum_at []) (range_with_len a n)
    from a zero = refl
    from a (suc n) = ap (λ t. 0 ∷ t) (from (a + 1) n)

pub values-all : (q : List (ℕ × ℕ)) (count n : ℕ) (values : List ℕ) → length q ≤ n → values ≡ map (sum_at (take n q)) (below count) → values ≡ map (sum_at q) (below count)
values-all q count n values h made = made ∙ ap (λ t. map (sum_at t) (below count)) (take_all n q h)

-- ---- these are the tensor's values

total-same : (ps : List (List ℕ)) (up : Ascending ps) (r : ℕ) → r < length ps → (ranks : List ℕ) (entries : List (List ℕ × ℕ)) → Each (λ r. r < length ps) ranks
    → map (list_at ps) ranks ≡ map (λ entry. entry.0) entries
    → total (λ entry. cond (same_list entry.0 (list_at ps r)) entry.1 0) entries ≡ total (here r) (zip ranks (map (λ entry. entry.1) entries))
total-same ps up r h [] [] l e = refl
total-same ps up r h [] (entry ∷ entries) l e = cc
total-same ps up r h (s ∷ ranks) [] l e = cc
total-same ps up r h (s ∷ ranks) (entry ∷ entries) l e =
    let first : list_at ps s ≡ entry.0 = cc in
    let others : map (list_at ps) ranks ≡ map (λ entry. entry.0) entries = cc in
    let test : same_list entry.0 (list_at ps r) ≡ eqb s r = ap (λ p. same_list p (list_at ps r)) (sym first) ∙ same-place ps up s r l.0 h in
    let there = total-same ps up r h ranks entries l.1 others in
    two (ap (λ b. cond b entry.1 0) test) there
  where
    two : {a b c d : ℕ} → a ≡ b → c ≡ d → a + c ≡ b + d
    two ab cd = cc

pub values-are : (a : Stored) (n count : ℕ) (ranks : List ℕ) → length a.sizes ≡ n → Each (λ entry. length entry.0 ≡ length a.sizes) a.entries → Placed a n count ranks
    → map (sum_at (zip ranks (map (λ entry. entry.1) a.entries))) (below count) ≡ values_of a
values-are a n count ranks levels long placed =
    ap (λ m. map (sum_at (zip ranks (map (λ entry. entry.1) a.entries))) (below m)) placed.counted
    ∙ map-ext-each (λ r. r < length (stored_prefixes a n)) (sum_at (zip ranks (map (λ entry. entry.1) a.entries))) (λ r. value_at a (list_at (stored_prefixes a n) r))
    (λ r h. ap (λ t. t % 2 ^ 64) (sym (total-same (stored_prefixes a n) (prefixes-ascend a n) r h ranks a.entries
    (Each-weaker (λ r. r < count) (λ r. r < length (stored_prefixes a n)) (λ r l. let e = placed.counted in omega arith) ranks placed.ranked)
    (placed.placed ∙ map-ext-each (λ entry. length entry.0 ≡ length a.sizes) (λ entry. take n entry.0) (λ entry. entry.0) (λ entry e. take_all n entry.0 (omega arith)) a.entries long))))
    (below (length (stored_prefixes a n))) (below-inside (length (stored_prefixes a n)))
    ∙ sym (map-map (value_at a) (list_at (stored_prefixes a n)) (below (length (stored_prefixes a n))))
    ∙ ap (map (value_at a)) (by-places (stored_prefixes a n))
    ∙ ap (λ k. map (value_at a) (stored_prefixes a k)) (sym levels)

pub ranked_values-entries : (ranks : List ℕ) (n : ℕ) (rows : List Row) → ranked_values ranks rows ≡ zip ranks (map (λ entry. entry.1) (map (row_entry n) rows))
ranked_values-entries ranks n rows = ap (zip ranks) (sym (map-map (λ (entry : List ℕ × ℕ). entry.1) (row_entry n) rows))
