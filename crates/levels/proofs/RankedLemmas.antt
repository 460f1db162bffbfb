-- What a tensor by ranks has at each length and level.
use Rattle.std.proofs.Common.{◌≡◌, ℕ, suc, ◌-◌, ◌<◌, ◌≤◌, [], length, ap, sym, ◌∙◌, arith, zero-add}
use Rattle.std.specs.Prelude.{slice_index, slice_index_or}
use Rattle.std.proofs.lemmas.List.FromFn.{get_or-map-range_with_len, length-map-range_with_len}
use Rattle.std.proofs.lemmas.List.{length-map}
use Rattle.sam_model.specs.Tensors.{Stored, stored_prefixes, value_at}
use Rattle.sam_model.specs.Children.{Ranked, ranked, children_of, children_under}
use Rattle.levels.specs.Reads.{children_at}

pub ranked-count : (a : Stored) (k : ℕ) → k ≤ length a.sizes → slice_index (ranked a).counts k ≡ length (stored_prefixes a k)
ranked-count a k h = get_or-map-range_with_len (λ k. length (stored_prefixes a k)) 0 (suc (length a.sizes)) k k 0 (omega arith) (zero-add k)

pub ranked-children : (a : Stored) (k : ℕ) → k < length a.sizes → children_at (ranked a) (suc k) ≡ children_of a (suc k)
ranked-children a k h =
    let e : suc k - 1 ≡ k = omega arith in
    ap (λ m. slice_index_or (ranked a).children m []) e ∙ get_or-map-range_with_len (λ k. children_of a (suc k)) 0 (length a.sizes) k k [] h (zero-add k)

-- each stored prefix has a list of children
pub ranked-parents : (a : Stored) (k : ℕ) → k < length a.sizes → length (children_at (ranked a) (suc k)) ≡ slice_index (ranked a).counts k
ranked-parents a k h =
    ap length (ranked-children a k h) ∙ length-map (stored_prefixes a k) (children_under a) ∙ sym (ranked-count a k (omega arith))

pub ranked-values : (a : Stored) → length (ranked a).values ≡ slice_index (ranked a).counts (length a.sizes)
ranked-values a = length-map (stored_prefixes a (length a.sizes)) (value_at a) ∙ sym (ranked-count a (length a.sizes) (omega arith))

pub ranked-levels : (a : Stored) → length (ranked a).counts ≡ suc (length a.sizes)
ranked-levels a = length-map-range_with_len (λ k. length (stored_prefixes a k)) 0 (suc (length a.sizes))

-- the same of a storage that is known to hold a tensor with n levels
pub held-levels : (a : Stored) (s : Ranked) (n : ℕ) → s ≡ ranked a → length a.sizes ≡ n → length s.counts ≡ suc n
held-levels a s n h e = ap (λ (s : Ranked). length s.counts) h ∙ ranked-levels a ∙ ap suc e

pub held-parents : (a : Stored) (s : Ranked) (n : ℕ) → s ≡ ranked a → length a.sizes ≡ n → (k : ℕ) → k < n → length (children_at s (suc k)) ≡ slice_index s.counts k
held-parents a s n h e k l =
    ap (λ (s : Ranked). length (children_at s (suc k))) h ∙ ranked-parents a k (omega arith) ∙ sym (ap (λ (s : Ranked). slice_index s.counts k) h)

pub held-values : (a : Stored) (s : Ranked) (n : ℕ) → s ≡ ranked a → length a.sizes ≡ n → length s.values ≡ slice_index s.counts n
held-values a s n h e =
    ap (λ (s : Ranked). length s.values) h ∙ ranked-values a ∙ ap (slice_index (ranked a).counts) e ∙ sym (ap (λ (s : Ranked). slice_index s.counts n) h)
