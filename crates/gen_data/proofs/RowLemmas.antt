-- Entries that are kept one behind the other, as loops make them.
use Rattle.std.proofs.Common.{◌≡◌, ◌∙◌, ◌++◌, ◌+◌, ℕ, ap, ap₂, sym, List, [], ◌∷◌, map, append_assoc, append-nil, arith}
use Rattle.std.specs.List.{flat_map}
use Rattle.std.proofs.lemmas.Grind.{flat_map-append}
use Rattle.std.proofs.lemmas.List.{map-append}
use Rattle.std.proofs.lemmas.List.Folds.{flat_map-map}
use Rattle.std.proofs.lemmas.List.FromFn.{map-range_with_len_more}
use Rattle.sam_model.specs.Lists.{below}

number_next : (n : ℕ) → 0 + n ≡ n
number_next n = omega arith

-- what the next number adds
added : {A : Type 0} (f : ℕ → List A) (n : ℕ) → flat_map f (below (n + 1)) ≡ flat_map f (below n) ++ f n
added f n =
    sym (flat_map-map f (λ (k : ℕ). k) (below (n + 1)))
    ∙ ap (flat_map f) (map-range_with_len_more (λ (k : ℕ). k) 0 n n (number_next n))
    ∙ flat_map-append f (map (λ (k : ℕ). k) (below n)) (n ∷ [])
    ∙ ap₂ (λ a b. a ++ b) (flat_map-map f (λ (k : ℕ). k) (below n)) (append-nil (f n))

-- ---- one entry more of a row

module _ (f : ℕ → List ℕ × ℕ) (s : ℕ) (row column value : ℕ) (next : (row ∷ column ∷ [], value) ≡ f s) where
  pub coords_more : (coords done : List ℕ) → coords ≡ done ++ flat_map (λ entry. entry.0) (map f (below s))
      → (coords ++ row ∷ []) ++ column ∷ [] ≡ done ++ flat_map (λ entry. entry.0) (map f (below (s + 1)))
  coords_more coords done so_far =
      append_assoc coords (row ∷ []) (column ∷ [])
      ∙ ap (λ (l : List ℕ). l ++ row ∷ column ∷ []) so_far
      ∙ append_assoc done (flat_map (λ (entry : List ℕ × ℕ). entry.0) (map f (below s))) (row ∷ column ∷ [])
      ∙ ap (λ (e : List ℕ × ℕ). done ++ (flat_map (λ (entry : List ℕ × ℕ). entry.0) (map f (below s)) ++ e.0)) next
      ∙ ap (λ (l : List ℕ). done ++ l) (
      ap (λ (l : List ℕ). l ++ (f s).0) (flat_map-map (λ (entry : List ℕ × ℕ). entry.0) f (below s))
      ∙ sym (added (λ (k : ℕ). (f k).0) s)
      ∙ sym (flat_map-map (λ (entry : List ℕ × ℕ). entry.0) f (below (s + 1)))
      )

  pub values_more : (values done : List ℕ) → values ≡ done ++ map (λ entry. entry.1) (map f (below s))
      → values ++ value ∷ [] ≡ done ++ map (λ entry. entry.1) (map f (below (s + 1)))
  values_more values done so_far =
      ap (λ (l : List ℕ). l ++ value ∷ []) so_far
      ∙ append_assoc done (map (λ (entry : List ℕ × ℕ). entry.1) (map f (below s))) (value ∷ [])
      ∙ ap (λ (e : List ℕ × ℕ). done ++ (map (λ (entry : List ℕ × ℕ). entry.1) (map f (below s)) ++ e.1 ∷ [])) next
      ∙ ap (λ (l : List ℕ). done ++ l) (
      sym (map-append (λ (entry : List ℕ × ℕ). entry.1) (map f (below s)) (f s ∷ []))
      ∙ ap (map (λ (entry : List ℕ × ℕ). entry.1)) (sym (map-range_with_len_more f 0 s s (number_next s)))
      )

-- ---- one row more of a matrix

module _ (rows : ℕ → List (List ℕ × ℕ)) (n : ℕ) where
  pub all_coords_more : (coords : List ℕ) → coords ≡ flat_map (λ entry. entry.0) (flat_map rows (below n))
      → coords ++ flat_map (λ entry. entry.0) (rows n) ≡ flat_map (λ entry. entry.0) (flat_map rows (below (n + 1)))
  all_coords_more coords so_far =
      ap (λ (l : List ℕ). l ++ flat_map (λ (entry : List ℕ × ℕ). entry.0) (rows n)) so_far
      ∙ sym (flat_map-append (λ (entry : List ℕ × ℕ). entry.0) (flat_map rows (below n)) (rows n))
      ∙ ap (flat_map (λ (entry : List ℕ × ℕ). entry.0)) (sym (added rows n))

  pub all_values_more : (values : List ℕ) → values ≡ map (λ entry. entry.1) (flat_map rows (below n))
      → values ++ map (λ entry. entry.1) (rows n) ≡ map (λ entry. entry.1) (flat_map rows (below (n + 1)))
  all_values_more values so_far =
      ap (λ (l : List ℕ). l ++ map (λ (entry : List ℕ × ℕ). entry.1) (rows n)) so_far
      ∙ sym (map-append (λ (entry : List ℕ × ℕ). entry.1) (flat_map rows (below n)) (rows n))
      ∙ ap (map (λ (entry : List ℕ × ℕ). entry.1)) (sym (added rows n))
