-- The smallest number that fails a test.
use Rattle.std.specs.Prelude.{◌≡◌, ◌<◌, ◌+◌, ℕ, Bool, true, false, not, get_or, refl}
use Rattle.std.proofs.Common.{arith, ◌∙◌, ap, subst, inl, inr}
use Rattle.std.proofs.lemmas.Bool.{cases_lt}
use Rattle.std.proofs.lemmas.List.Sums.{fails_before_first, position_or_len_is}
use Rattle.std.proofs.lemmas.List.FromFn.{get_or-range_with_len, length-range_with_len}
use Rattle.sam_model.specs.Lists.{below}
use Rattle.graph_check.specs.Faults.{first_failing}

not-false : (b : Bool) → not b ≡ false → b ≡ true
not-false true e = refl
not-false false e = absurd (cc)

place-is : (n k : ℕ) → k < n → get_or (below n) k 0 ≡ k
place-is n k h = get_or-range_with_len 0 n k 0 h ∙ (omega arith)

-- each number before it passes
pub passes-before : (test : ℕ → Bool) (n k : ℕ) → k < n → k < first_failing test n → test k ≡ true
passes-before test n k h i =
    let e : not (test (get_or (below n) k 0)) ≡ false = fails_before_first (λ k. not (test k)) (below n) k 0 i in
    not-false (test k) (subst (λ (x : ℕ). not (test x) ≡ false) (place-is n k h) e)

-- where all pass it is their number
pub all-pass : (test : ℕ → Bool) (n : ℕ) → ((k : ℕ) → k < n → test k ≡ true) → first_failing test n ≡ n
all-pass test n h =
    let long = length-range_with_len 0 n in
    position_or_len_is (λ k. not (test k)) (below n) n 0 (omega (arith, long))
    (λ k i. ap not (ap test (place-is n k i) ∙ h k i))
    (λ i. absurd (omega (arith, i, long)))

-- the first one that fails
pub first-is : (test : ℕ → Bool) (n b : ℕ) → b < n → ((k : ℕ) → k < b → test k ≡ true) → test b ≡ false → first_failing test n ≡ b
first-is test n b l before fails =
    let long = length-range_with_len 0 n in
    position_or_len_is (λ k. not (test k)) (below n) b 0 (omega (arith, l, long))
    (λ k i. ap not (ap test (place-is n k (omega (arith, i, l))) ∙ before k i))
    (λ i. ap not (ap test (place-is n b l) ∙ fails))

-- one number more that passes
pub passes-next : (test : ℕ → Bool) (b : ℕ) → ((k : ℕ) → k < b → test k ≡ true) → test b ≡ true → (k : ℕ) → k < b + 1 → test k ≡ true
passes-next test b before here k l = elim (cases_lt k b) as (λ _. test k ≡ true) [
  | inl i ↦ before k i
  | inr i ↦ let same : k ≡ b = omega (arith, i, l) in ap test same ∙ here
]
