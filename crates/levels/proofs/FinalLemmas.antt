-- What was made of the rows is the tensor by ranks.
use Rattle.std.proofs.Common.{◌≡◌, ℕ, zero, suc, ◌+◌, Bool, List, [], ◌∷◌, ◌++◌, length, take, refl, ap, sym, ◌∙◌, arith}
use Rattle.std.specs.Prelude.{slice_index}
use Rattle.std.specs.List.{filter, range_with_len}
use Rattle.std.specs.List.Sorted.{IsPermutation}
use mathlib.Core.List.{map}
use Rattle.std.proofs.lemmas.List.{length-map}
use Rattle.sam_model.specs.declared.tensors.Tensor.{Tensor}
use Rattle.sam_model.specs.declared.tensors.Entries.{Entries}
use Rattle.sam_model.specs.Lists.{below, smaller, tuples}
use Rattle.sam_model.specs.Tensors.{Stored, stored_prefixes, stored_as}
use Rattle.sam_model.specs.Children.{Ranked, ranked, children_of}
use Rattle.levels.specs.declared.rows.Row.{Row}
use Rattle.levels.specs.declared.level.Level.{Level}
use Rattle.levels.specs.Placed.{list_at, InOrder, Placed}
use Rattle.levels.specs.Rows.{of_rows, sum_at, ranked_values}
use Rattle.levels.specs.Shown.{level_count, level_children}
use Rattle.levels.proofs.SortLemmas.{moved, stored-same, value-same, prefixes-same}
use Rattle.levels.proofs.ValueLemmas.{values-are, ranked_values-entries}

-- a tensor by ranks, from what is stored of it
abbrev pub ranked_by : (List ℕ → Bool) → (List ℕ → ℕ) → List ℕ → Ranked
ranked_by stored value sizes = record {
  counts = map (λ k. length (filter stored (tuples (take k sizes)))) (below (suc (length sizes)));
  children = map (λ k. map (λ p. map (λ c. (c, length (filter (λ q. smaller q (p ++ c ∷ [])) (filter stored (tuples (take (length (p ++ c ∷ [])) sizes))))))
      (filter (λ c. stored (p ++ c ∷ [])) (below (slice_index sizes (length p))))) (filter stored (tuples (take k sizes)))) (below (length sizes));
  values = map value (filter stored (tuples (take (length sizes) sizes)));
}

pub ranked-same : (a : Stored) (entries : List (List ℕ × ℕ)) (same : IsPermutation a.entries entries) → ranked a ≡ ranked (moved a entries same)
ranked-same a entries same = λ i. ranked_by (λ p. stored-same a entries same p i) (λ c. value-same a entries same c i) a.sizes

shift : {A : Type 0} (f : ℕ → A) (a n : ℕ) → map f (range_with_len (a + 1) n) ≡ map (λ k. f (suc k)) (range_with_len a n)
shift f a zero = refl
shift f a (suc n) =
    let e : a + 1 ≡ suc a = omega arith in
    let here = ap f e in
    let there = shift f (a + 1) n in
    cc (here, there)

pub placed-length : (a : Stored) (k count : ℕ) (ranks : List ℕ) → Placed a k count ranks → length ranks ≡ length a.entries
placed-length a k count ranks placed =
    sym (length-map ranks (list_at (stored_prefixes a k))) ∙ ap length placed.placed ∙ length-map a.entries (λ entry. take k entry.0)

module _ (t : Tensor) (e : Entries) (rows : List Row) (same : IsPermutation (stored_as t e).entries (of_rows t rows).entries) where
  pub made-prefixes : (k : ℕ) → stored_prefixes (stored_as t e) k ≡ stored_prefixes (of_rows t rows) k
  made-prefixes k = prefixes-same (stored_as t e) (of_rows t rows).entries same k

  levels-many : length (of_rows t rows).sizes ≡ length t.order
  levels-many = length-map t.order (slice_index t.dims)

  pub made-ranked : (levels : List Level) (values : List ℕ) (count : ℕ) (ranks : List ℕ) → InOrder (of_rows t rows)
      → map level_children levels ≡ map (λ k. children_of (of_rows t rows) (suc k)) (below (length t.order))
      → map level_count levels ≡ map (λ k. length (stored_prefixes (of_rows t rows) (suc k))) (below (length t.order))
      → Placed (of_rows t rows) (length t.order) count ranks
      → values ≡ map (sum_at (ranked_values ranks rows)) (below count)
      → ◌≡◌ {A = Ranked} record { counts = 1 ∷ map level_count levels; children = map level_children levels; values = values } (ranked (stored_as t e))
  made-ranked levels values count ranks order children counts placed sums =
      all (ap (λ ns. 1 ∷ ns) (counts ∙ ap (λ n. map (λ k. length (stored_prefixes (of_rows t rows) (suc k))) (below n)) (sym levels-many) ∙ sym (shift (λ k. length (stored_prefixes (of_rows t rows) k)) 0 (length (of_rows t rows).sizes))))
      (children ∙ ap (λ n. map (λ k. children_of (of_rows t rows) (suc k)) (below n)) (sym levels-many))
      (sums ∙ ap (λ q. map (sum_at q) (below count)) (ranked_values-entries ranks (length t.order) rows)
      ∙ values-are (of_rows t rows) (length t.order) count ranks levels-many order.long placed)
      ∙ sym (ranked-same (stored_as t e) (of_rows t rows).entries same)
    where
      all : {c d : List ℕ} {x y : List (List (List (ℕ × ℕ)))} {v w : List ℕ} → c ≡ d → x ≡ y → v ≡ w → ◌≡◌ {A = Ranked} record { counts = c; children = x; values = v } record { counts = d; children = y; values = w }
      all p q r = λ i. record { counts = p i; children = q i; values = r i }
