-- What is found, closed over the dense levels of the result, is what the pattern lists.
use Rattle.std.specs.Prelude.{◌≡◌, ◌<◌, ◌≤◌, ℕ, zero, suc, ◌+◌, ◌%◌, ◌^◌, Bool, true, false, cond, ◌&&◌, List, [], ◌∷◌, ◌++◌, length, take, eqb, refl}
use Rattle.std.specs.List.{filter, flat_map, range_with_len}
use mathlib.Core.List.{map}
use Rattle.std.proofs.Common.{arith, sym, ◌∙◌, ap}
use Rattle.std.proofs.Math.Nat.{mod-mod}
use Rattle.std.proofs.Math.Seq.{take-length}
use Rattle.std.proofs.lemmas.Bool.{eqb-true}
use Rattle.std.proofs.lemmas.Bool.Decides.{nat_tests}
use Rattle.sam_base.specs.Each.{Each}
use Rattle.sam_model.specs.declared.tensors.Entries.{Entries}
use Rattle.sam_model.specs.declared.program.Program.{Program}
use Rattle.sam_model.specs.Lists.{below, total, same_list, tuples, items_at}
use Rattle.sam_model.specs.Tensors.{Stored, is_stored, value_at, stored_entries}
use Rattle.sam_model.specs.Pattern.{result_as, closed}
use Rattle.sam_model.specs.Statement.{denoted_at, found_at, found_entries, statement_entries}
use Rattle.sam_model.proofs.Lists.{Each-map, Each-flat_map, Each-range, Each-filter, map-ext-each}
use Rattle.expand.specs.Laws.{ClosedTells}
use Rattle.expand.proofs.Nothing.{nothing-is-zero}

-- ---- totals

total-append : {A : Type 0} (f : A → ℕ) (xs ys : List A) → total f (xs ++ ys) ≡ total f xs + total f ys
total-append f [] ys = omega arith
total-append f (x ∷ xs) ys = let h = total-append f xs ys in omega (arith, h)

total-map : {A B : Type 0} (f : B → ℕ) (g : A → B) (xs : List A) → total f (map g xs) ≡ total (λ x. f (g x)) xs
total-map f g [] = refl
total-map f g (x ∷ xs) = ap (λ (n : ℕ). f (g x) + n) (total-map f g xs)

total-flat_map : {A B : Type 0} (f : B → ℕ) (g : A → List B) (xs : List A) → total f (flat_map g xs) ≡ total (λ x. total f (g x)) xs
total-flat_map f g [] = refl
total-flat_map f g (x ∷ xs) = total-append f (g x) (flat_map g xs) ∙ ap (λ (n : ℕ). total f (g x) + n) (total-flat_map f g xs)

total-ext : {A : Type 0} (f g : A → ℕ) → ((x : A) → f x ≡ g x) → (xs : List A) → total f xs ≡ total g xs
total-ext f g h [] = refl
total-ext f g h (x ∷ xs) = rw (h x, total-ext f g h xs) refl

total-filter : {A : Type 0} (f : A → ℕ) (keep : A → Bool) (xs : List A) → total f (filter keep xs) ≡ total (λ x. cond (keep x) (f x) 0) xs
total-filter f keep [] = refl
total-filter {A = A} f keep (x ∷ xs) = by_case (keep x) (total-filter f keep xs)
  where
    by_case : (b : Bool) → total f (filter keep xs) ≡ total (λ x. cond (keep x) (f x) 0) xs
        → total f (cond b (x ∷ filter keep xs) (filter keep xs)) ≡ cond b (f x) 0 + total (λ x. cond (keep x) (f x) 0) xs
    by_case true h = ap (λ (n : ℕ). f x + n) h
    by_case false h = omega (arith, h)

-- a range has no number below its first
none_above : (k d a n : ℕ) → d < a → total (λ e. cond (eqb e d) k 0) (range_with_len a n) ≡ 0
none_above k d a zero h = refl
none_above k d a (suc n) h =
    let other : eqb a d ≡ false = grind (arith, nat_tests, h) in
    let rest = none_above k d (a + 1) n (omega (arith, h)) in
    rw other (omega (arith, rest))

-- and each of its numbers once
one_of_range : (k d a n : ℕ) → a ≤ d → d < a + n → total (λ e. cond (eqb e d) k 0) (range_with_len a n) ≡ k
one_of_range k d a zero h l = absurd (omega (arith, h, l))
one_of_range k d a (suc n) h l = by_case (eqb a d) refl (λ apart. one_of_range k d (a + 1) n (omega (arith, apart)) (omega (arith, l)))
  where
    by_case : (b : Bool) → eqb a d ≡ b → (a < d → total (λ e. cond (eqb e d) k 0) (range_with_len (a + 1) n) ≡ k)
        → cond (eqb a d) k 0 + total (λ e. cond (eqb e d) k 0) (range_with_len (a + 1) n) ≡ k
    by_case true e rest =
        let none = none_above k d (a + 1) n (let s = eqb-true a d e in omega (arith, s)) in rw e (omega (arith, none))
    by_case false e rest =
        let found = rest (grind (arith, nat_tests, h, e)) in rw e (omega (arith, found))

-- ---- each tuple stands once among all

-- of all numbers at these tuples, the one at c
abbrev at_one : List (List ℕ) → List ℕ → (List ℕ → ℕ) → ℕ
at_one ts c f = total (λ x. cond (same_list x c) (f x) 0) ts

abbrev StandsOnce : List (List ℕ) → List ℕ → Type 0
StandsOnce ts c = (f : List ℕ → ℕ) → at_one ts c f ≡ f c

all_zero : {A : Type 0} (xs : List A) → total (λ (x : A). 0) xs ≡ 0
all_zero [] = refl
all_zero (x ∷ xs) = let rest = all_zero xs in omega (arith, rest)

headed : (ts : List (List ℕ)) (d e : ℕ) (u : List ℕ) → StandsOnce ts u → (f : List ℕ → ℕ)
    → at_one (map (λ v. e ∷ v) ts) (d ∷ u) f ≡ cond (eqb e d) (f (d ∷ u)) 0
headed ts d e u once f =
    total-map (λ x. cond (same_list x (d ∷ u)) (f x) 0) (λ (v : List ℕ). e ∷ v) ts ∙ by_case (eqb e d) refl
  where
    by_case : (b : Bool) → eqb e d ≡ b → total (λ v. cond (b && same_list v u) (f (e ∷ v)) 0) ts ≡ cond b (f (d ∷ u)) 0
    by_case true h = once (λ v. f (e ∷ v)) ∙ ap (λ (n : ℕ). f (n ∷ u)) (eqb-true e d h)
    by_case false h = all_zero ts

tuples-once : (sizes : List ℕ) → Each (StandsOnce (tuples sizes)) (tuples sizes)
tuples-once [] = ((λ f. omega arith), tt)
tuples-once (s ∷ sizes) =
    Each-flat_map (λ d. d < s) (StandsOnce (tuples (s ∷ sizes))) (λ d. map (λ u. d ∷ u) (tuples sizes))
    (λ d small. Each-map (StandsOnce (tuples (s ∷ sizes))) (λ u. d ∷ u) (StandsOnce (tuples sizes)) (step d small) (tuples sizes) (tuples-once sizes))
    (below s) (Each-range 0 s s (omega arith))
  where
    step : (d : ℕ) → d < s → (u : List ℕ) → StandsOnce (tuples sizes) u → StandsOnce (tuples (s ∷ sizes)) (d ∷ u)
    step d small u once f =
        total-flat_map (λ x. cond (same_list x (d ∷ u)) (f x) 0) (λ e. map (λ v. e ∷ v) (tuples sizes)) (below s)
        ∙ total-ext (λ e. at_one (map (λ v. e ∷ v) (tuples sizes)) (d ∷ u) f) (λ e. cond (eqb e d) (f (d ∷ u)) 0) (λ e. headed (tuples sizes) d e u once f) (below s)
        ∙ one_of_range (f (d ∷ u)) d 0 s (omega arith) (omega (arith, small))

-- ---- the value of what is found

module _ (p : Program) (es : List Entries) where
  abbrev all : List (List ℕ)
  all = tuples (items_at p.result.dims p.result.order)

  abbrev found : Stored
  found = result_as p.result (found_entries p es)

  swapped : (a b : Bool) (n : ℕ) → cond a (cond b n 0) 0 ≡ cond b (cond a n 0) 0
  swapped true true n = refl
  swapped true false n = refl
  swapped false true n = refl
  swapped false false n = refl

  found_total : (c : List ℕ) → StandsOnce all c
      → total (λ entry. cond (same_list entry.0 c) entry.1 0) (found_entries p es) ≡ cond (found_at p es c) (denoted_at p es c) 0
  found_total c once =
      total-map {A = List ℕ} {B = List ℕ × ℕ} (λ entry. cond (same_list entry.0 c) entry.1 0) (λ x. (x, denoted_at p es x)) (filter (found_at p es) all)
      ∙ total-filter (λ x. cond (same_list x c) (denoted_at p es x) 0) (found_at p es) all
      ∙ total-ext (λ x. cond (found_at p es x) (cond (same_list x c) (denoted_at p es x) 0) 0)
      (λ x. cond (same_list x c) (cond (found_at p es x) (denoted_at p es x) 0) 0) (λ x. swapped (found_at p es x) (same_list x c) (denoted_at p es x)) all
      ∙ once (λ x. cond (found_at p es x) (denoted_at p es x) 0)

  value_found : (c : List ℕ) → StandsOnce all c → value_at found c ≡ denoted_at p es c
  value_found c once = ap (λ (n : ℕ). n % 2 ^ 64) (found_total c once) ∙ by_case (found_at p es c) refl
    where
      by_case : (b : Bool) → found_at p es c ≡ b → cond b (denoted_at p es c) 0 % 2 ^ 64 ≡ denoted_at p es c
      by_case true h = mod-mod _ (2 ^ 64)
      by_case false h = sym (nothing-is-zero p es c h)

  -- a result without dimensions, and one with dimensions
  closed-tells : closed p.result (found_entries p es) ≡ statement_entries p es
  closed-tells = by_case (eqb (length p.result.formats) 0) refl
    where
      by_case : (b : Bool) → eqb (length p.result.formats) 0 ≡ b
          → cond b (found_entries p es) (stored_entries found)
          ≡ map (λ x. (x, denoted_at p es x)) (filter (λ x. cond b (found_at p es x) (is_stored found x)) all)
      by_case true h = refl
      by_case false h =
          let whole : filter (is_stored found) (tuples (take (length (items_at p.result.dims p.result.order)) (items_at p.result.dims p.result.order)))
          ≡ filter (is_stored found) all
          = ap (λ (sizes : List ℕ). filter (is_stored found) (tuples sizes)) (take-length (items_at p.result.dims p.result.order)) in
          ap (map (λ x. (x, value_at found x))) whole
          ∙ map-ext-each (StandsOnce all) (λ x. (x, value_at found x)) (λ x. (x, denoted_at p es x)) (λ x once. ap (λ (n : ℕ). (x, n)) (value_found x once))
          (filter (is_stored found) all) (Each-filter (StandsOnce all) (is_stored found) all (tuples-once (items_at p.result.dims p.result.order)))

pub closed-is-listed : ClosedTells
closed-is-listed p es e = closed-tells p es
