-- Steps of the tests on programs.
use Rattle.std.proofs.Common.{◌≡◌, ℕ, zero, suc, ◌+◌, ◌-◌, ◌<◌, ◌≤◌, List, [], ◌∷◌, length, get_or, Bool, true, false, ◌&&◌, refl, sym, ap, ◌∙◌, arith}
use Rattle.std.specs.List.{list_all, range_with_len}
use Rattle.sam_model.specs.declared.tensors.Tensor.{Tensor}
use Rattle.sam_model.specs.Accepted.{tensor_passes}

pub passes-at : (test : Tensor → Bool) (ts : List Tensor) (n : ℕ) (t : Tensor) → n < length ts → t ≡ get_or ts n t → test t ≡ tensor_passes test ts n
passes-at test [] n t h e = absurd (omega (arith, h))
passes-at test (x ∷ ts) zero t h e = ap test e
passes-at test (x ∷ ts) (suc n) t h e = passes-at test ts n t (omega arith) e

pub passes-past : (test : Tensor → Bool) (ts : List Tensor) (n : ℕ) → length ts ≤ n → false ≡ tensor_passes test ts n
passes-past test [] n h = refl
passes-past test (x ∷ ts) zero h = absurd (omega (arith, h))
passes-past test (x ∷ ts) (suc n) h = passes-past test ts n (omega arith)

range-from : (v n : ℕ) → v < n → range_with_len v (n - v) ≡ v ∷ range_with_len (v + 1) (n - (v + 1))
range-from v n h = ap (λ k. range_with_len v k) (less v n h)
  where
    less : (v n : ℕ) → v < n → n - v ≡ suc (n - (v + 1))
    less v n h = omega arith

pub all-more : (p : ℕ → Bool) (v n : ℕ) → v < n → p v ≡ true → list_all p (range_with_len (v + 1) (n - (v + 1))) ≡ list_all p (range_with_len v (n - v))
all-more p v n h e = sym (ap (λ vs. list_all p vs) (range-from v n h) ∙ ap (λ b. b && list_all p (range_with_len (v + 1) (n - (v + 1)))) e)
