-- What is gathered beneath a prefix over the coordinates of a loop that is taken away.
use Rattle.std.specs.Prelude.{◌≡◌, ◌<◌, ℕ, suc, Bool, true, false, cond, List, [], ◌∷◌, ◌++◌, length, slice_index, None, refl}
use Rattle.std.specs.List.{flat_map, filter, list_any}
use mathlib.Core.List.{map}
use Rattle.std.proofs.Common.{arith, sym, ◌∙◌, ap, append_assoc}
use Rattle.std.proofs.lemmas.List.{length_push}
use Rattle.std.proofs.lemmas.List.Folds.{flat_map-map}
use Rattle.sam_model.specs.Lists.{below}
use Rattle.sam_model.specs.Denote.{Loop}
use Rattle.stream_tokens.specs.Nest.{Leaf, Fiber}
use Rattle.stream_tokens.specs.Shapes.{on_fibers, under}
use Rattle.stream_tokens.proofs.Algebra.{map-map, on_fibers-under, under-ext}
use Rattle.stream_model.specs.Grow.{next, longer, path_fibers}
use Rattle.stream_model.specs.Terms.{TermData}
use Rattle.stream_model.specs.Trees.{in_reduced, value_reduced, reduced_sizes}
use Rattle.stream_model.specs.Reduction.{Reduces}
use Rattle.sam_model.proofs.Lists.{map-ext, flat_map-ext}
use Rattle.stream_model.proofs.Grown.{InTree, path_fibers-suc, paths-InTree}
use Rattle.block_core.specs.Arithmetic.{combined_leaf, Plus}
use Rattle.block_core.specs.Gather.{gather, all_of}
use Rattle.label_rules.proofs.laws.Following.{followers}
use Rattle.label_rules.proofs.term.Loops.{size-reduced, size-beneath}
use Rattle.label_rules.proofs.laws.KeptStreams.{prefixes-kept}
use Rattle.label_rules.proofs.laws.Gathered.{Adds, sum_all, paired, listed, listed-ext, gather-rows}
use Rattle.label_rules.proofs.laws.Totals.{plus-adds, sum-all-combined, loop_coordinates, value-summed, value-absent, any-summed}

module _ (t : TermData) (before : List Loop) (s : ℕ) (after : List Loop) (g : ℕ) (r : Reduces t before s after g) where
  -- the coordinates that follow u in the tree where n loops are gone, with what v tells
  abbrev pub followers_at : {V : Type 0} → ℕ → (List ℕ → V) → List ℕ → List (ℕ × V)
  followers_at n v u = followers (in_reduced t n) (reduced_sizes t n) v u

  -- the coordinates of the loop that are in the tree beneath p
  abbrev pub coordinates_of_loop : List ℕ → List ℕ
  coordinates_of_loop p = loop_coordinates t before s after g r p

  -- the sum over these of what v tells of p, the coordinate and u
  abbrev pub over_loop : {V : Type 0} → (V → V → V) → V → (List ℕ → V) → List ℕ → List ℕ → V
  over_loop add none v p u = sum_all add none (map (λ c. v (p ++ c ∷ u)) (coordinates_of_loop p))

  pushed : (q : List ℕ) (b : ℕ) → 0 < length (q ++ b ∷ [])
  pushed q b = omega (arith, length_push q b)

  -- Beneath a prefix p of the loops before, what follows q is gathered over the coordinates of the loop.
  pub rows-gathered : {V : Type 0} (add : V → V → V) (none : V) → Adds add none → (v : List ℕ → V)
      → ((u : List ℕ) → in_reduced t g u ≡ false → v u ≡ none) → (p q : List ℕ) → length p ≡ length before
      → gather add (flat_map (λ c. followers_at g v (p ++ c ∷ q)) (coordinates_of_loop p))
      ≡ paired (λ b. over_loop add none v p (q ++ b ∷ [])) (next (in_reduced t (suc g)) (reduced_sizes t (suc g)) (p ++ q))
  rows-gathered {V = V} add none laws v absent p q h =
      ap (gather add) (flat_map-ext (λ c. followers_at g v (p ++ c ∷ q)) row row_is (coordinates_of_loop p))
      ∙ gather-rows add none laws n (λ c b. in_reduced t g (with_loop c b)) (λ c b. v (with_loop c b)) (coordinates_of_loop p)
      ∙ listed-ext (λ b. list_any (λ c. in_reduced t g (with_loop c b)) (coordinates_of_loop p))
      (λ b. in_reduced t (suc g) ((p ++ q) ++ b ∷ []))
      (λ b. sum_all add none (map (λ c. cond (in_reduced t g (with_loop c b)) (v (with_loop c b)) none) (coordinates_of_loop p)))
      (λ b. over_loop add none v p (q ++ b ∷ [])) n
      (λ b k.
      any-summed t before s after g r p (q ++ b ∷ []) h (pushed q b)
      ∙ ap (in_reduced t (suc g)) (sym (append_assoc p q (b ∷ []))))
      (λ b k e.
      ap (sum_all add none)
      (map-ext (λ c. cond (in_reduced t g (with_loop c b)) (v (with_loop c b)) none) (λ c. v (with_loop c b))
      (λ c. only_there (with_loop c b)) (coordinates_of_loop p)))
    where
      n : ℕ
      n = slice_index (reduced_sizes t (suc g)) (length (p ++ q))

      with_loop : ℕ → ℕ → List ℕ
      with_loop c b = p ++ c ∷ (q ++ b ∷ [])

      row : ℕ → List (ℕ × V)
      row c = listed (λ b. in_reduced t g (with_loop c b)) (λ b. v (with_loop c b)) (below n)

      row_is : (c : ℕ) → followers_at g v (p ++ c ∷ q) ≡ row c
      row_is c =
          ap (λ (m : ℕ). listed (λ b. in_reduced t g ((p ++ c ∷ q) ++ b ∷ [])) (λ b. v ((p ++ c ∷ q) ++ b ∷ [])) (below m))
          (size-beneath t before s after g r p c q h)
          ∙ listed-ext (λ b. in_reduced t g ((p ++ c ∷ q) ++ b ∷ [])) (λ b. in_reduced t g (with_loop c b))
          (λ b. v ((p ++ c ∷ q) ++ b ∷ [])) (λ b. v (with_loop c b)) n
          (λ b k. ap (in_reduced t g) (append_assoc p (c ∷ q) (b ∷ []))) (λ b k e. ap v (append_assoc p (c ∷ q) (b ∷ [])))

      only_there : (u : List ℕ) → cond (in_reduced t g u) (v u) none ≡ v u
      only_there u = by_case (in_reduced t g u) refl
        where
          by_case : (b : Bool) → in_reduced t g u ≡ b → cond b (v u) none ≡ v u
          by_case true e = refl
          by_case false e = sym (absent u e)

  -- so the values are those of the tree without the loop
  pub values-gathered : (p q : List ℕ) → length p ≡ length before
      → gather (combined_leaf Plus) (flat_map (λ c. followers_at g (value_reduced t g) (p ++ c ∷ q)) (coordinates_of_loop p))
      ≡ followers_at (suc g) (value_reduced t (suc g)) (p ++ q)
  values-gathered p q h =
      rows-gathered (combined_leaf Plus) None plus-adds (value_reduced t g) (value-absent t g) p q h
      ∙ map-ext (λ b. (b, over_loop (combined_leaf Plus) None (value_reduced t g) p (q ++ b ∷ [])))
      (λ b. (b, value_reduced t (suc g) ((p ++ q) ++ b ∷ [])))
      (λ b. ap (λ (o : Leaf). (b, o)) (total b)) (next (in_reduced t (suc g)) (reduced_sizes t (suc g)) (p ++ q))
    where
      total : (b : ℕ) → over_loop (combined_leaf Plus) None (value_reduced t g) p (q ++ b ∷ [])
          ≡ value_reduced t (suc g) ((p ++ q) ++ b ∷ [])
      total b =
          sum-all-combined (map (λ c. value_reduced t g (p ++ c ∷ (q ++ b ∷ []))) (coordinates_of_loop p))
          ∙ value-summed t before s after g r p (q ++ b ∷ []) h
          ∙ ap (value_reduced t (suc g)) (sym (append_assoc p q (b ∷ [])))

  -- ---- all pieces

  -- the prefixes one longer than p in the tree with the loop
  abbrev pub longer_by_loop : List ℕ → List (List ℕ)
  longer_by_loop p = longer (in_reduced t g) (reduced_sizes t g) p

  -- what f makes of these, in a row
  pub row-of-pieces : {B : Type 0} (f : List ℕ → List B) (p : List ℕ) → length p ≡ length before
      → all_of (map f (longer_by_loop p)) ≡ flat_map (λ c. f (p ++ c ∷ [])) (coordinates_of_loop p)
  row-of-pieces {B = B} f p h =
      ap (λ (xss : List (List B)). all_of xss) (map-map f (λ c. p ++ c ∷ []) (next (in_reduced t g) (reduced_sizes t g) p))
      ∙ flat_map-map (λ (xs : List B). xs) (λ c. f (p ++ c ∷ [])) (next (in_reduced t g) (reduced_sizes t g) p)
      ∙ ap (λ (n : ℕ). flat_map (λ c. f (p ++ c ∷ [])) (filter (λ c. in_reduced t g (p ++ c ∷ [])) (below n)))
      (size-reduced t before s after g r p h)

  -- a reducer of pieces that makes one row of those beneath each prefix of the loops before
  pub reduced-pieces : {A B : Type 0} (total : List (List A) → List B) → total [] ≡ []
      → (f : List ℕ → List A) (f' : List ℕ → List B)
      → ((p : List ℕ) → length p ≡ length before → total (map f (longer_by_loop p)) ≡ f' p)
      → on_fibers (λ xs. total (map f xs)) (path_fibers (in_reduced t g) (reduced_sizes t g) (suc (length before)))
      ≡ under f' (path_fibers (in_reduced t (suc g)) (reduced_sizes t (suc g)) (length before))
  reduced-pieces {A = A} {B = B} total empty f f' h =
      ap (λ (fs : List (Fiber (List ℕ))). on_fibers (λ xs. total (map f xs)) fs)
      (path_fibers-suc (in_reduced t g) (reduced_sizes t g) (length before))
      ∙ on_fibers-under (λ xs. total (map f xs)) longer_by_loop empty prefixes
      ∙ under-ext (InTree (in_reduced t g) (reduced_sizes t g) (length before)) (λ p. total (map f (longer_by_loop p))) f'
      (λ p i. h p i.count) prefixes (paths-InTree (in_reduced t g) (reduced_sizes t g) refl (length before))
      ∙ ap (λ (fs : List (Fiber (List ℕ))). under f' fs) (prefixes-kept t before s after g (length before) r (omega arith))
    where
      prefixes : List (Fiber (List ℕ))
      prefixes = path_fibers (in_reduced t g) (reduced_sizes t g) (length before)
