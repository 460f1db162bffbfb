-- Where so many loops are gone, the first levels are those of other numbers of loops, if the first kept loops are the same.
use Rattle.std.specs.Prelude.{◌≡◌, ◌<◌, ◌≤◌, ℕ, zero, suc, Bool, true, false, cond, ◌||◌, List, [], ◌∷◌, ◌++◌, length, take, leb, slice_index, refl}
use Rattle.std.specs.List.{list_any, filter}
use mathlib.Core.List.{map}
use Rattle.std.proofs.Common.{arith, sym, ◌∙◌, ap}
use Rattle.std.proofs.lemmas.List.{length_push}
use Rattle.sam_model.specs.Lists.{below}
use Rattle.sam_model.specs.Denote.{Loop, fill}
use Rattle.stream_model.specs.declared.labels.Attr.TheVariants.{Coordinate}
use Rattle.stream_model.specs.Grow.{path_fibers}
use Rattle.stream_model.specs.Terms.{TermData}
use Rattle.stream_model.specs.Trees.{free_count, kept_loops, kept_sizes, until, in_whole, in_reduced, reduced_sizes}
use Rattle.stream_model.specs.Labels.{reduced_shape, stream_at, loop_sizes, product_shape}
use Rattle.stream_model.specs.Masks.{final}
use Rattle.sam_model.proofs.Lists.{filter-ext}
use Rattle.stream_model.proofs.Grown.{paths-same}
use Rattle.stream_model.proofs.Products.{paths-final}
use Rattle.stream_model.proofs.Reduced.{same-whole}
use Rattle.label_rules.proofs.laws.KeptStreams.{coordinates-unpruned}
use Rattle.label_rules.proofs.laws.ProductTrees.{product_stream}
use Rattle.stream_model.proofs.Levels.{stream-over}
use Rattle.stream_model.specs.Tellings.{told, coordinate}

-- the places of the loops that are kept where g are gone, counted from n
abbrev pub kept_at : ℕ → ℕ → List Loop → List ℕ
kept_at g n [] = []
kept_at g n (l ∷ loops) = cond (l.1 || leb g (free_count loops)) (n ∷ kept_at g (suc n) loops) (kept_at g (suc n) loops)

-- the next place isn't this one
later : (g n m d : ℕ) (loops : List Loop) (rest : List ℕ) → n < m → n ∷ rest ≡ take (suc d) (kept_at g m loops) → ⊥
later g n m d [] rest l e = absurd (cc)
later g n m d (x ∷ loops) rest l e = by_case (x.1 || leb g (free_count loops)) e (later g n (suc m) d loops rest (omega (arith, l)))
  where
    by_case : (b : Bool) → n ∷ rest ≡ take (suc d) (cond b (m ∷ kept_at g (suc m) loops) (kept_at g (suc m) loops))
        → (n ∷ rest ≡ take (suc d) (kept_at g (suc m) loops) → ⊥) → ⊥
    by_case true f r = let k : n ≡ m = cc in absurd (omega (arith, l, k))
    by_case false f r = r f

-- the loops up to a kept one are the same
until_same : (g h n d k : ℕ) (loops : List Loop) → take d (kept_at g n loops) ≡ take d (kept_at h n loops) → k ≤ d
    → until k (kept_loops g loops) ≡ until k (kept_loops h loops)
until_same g h n d zero loops e l = refl
until_same g h n d (suc k) [] e l = refl
until_same g h n zero (suc k) (x ∷ loops) e l = absurd (omega (arith, l))
until_same g h n (suc d) (suc k) (x ∷ loops) e l =
    by_case (x.1 || leb g (free_count loops)) (x.1 || leb h (free_count loops)) e
    (λ f. until_same g h (suc n) d k loops f (omega (arith, l))) (λ f. until_same g h (suc n) (suc d) (suc k) loops f l)
  where
    by_case : (b c : Bool) → take (suc d) (cond b (n ∷ kept_at g (suc n) loops) (kept_at g (suc n) loops))
        ≡ take (suc d) (cond c (n ∷ kept_at h (suc n) loops) (kept_at h (suc n) loops))
        → (take d (kept_at g (suc n) loops) ≡ take d (kept_at h (suc n) loops) → until k (kept_loops g loops) ≡ until k (kept_loops h loops))
        → (take (suc d) (kept_at g (suc n) loops) ≡ take (suc d) (kept_at h (suc n) loops)
        → until (suc k) (kept_loops g loops) ≡ until (suc k) (kept_loops h loops))
        → until (suc k) ((x.0, b) ∷ kept_loops g loops) ≡ until (suc k) ((x.0, c) ∷ kept_loops h loops)
    by_case true true f r s =
        let t : take d (kept_at g (suc n) loops) ≡ take d (kept_at h (suc n) loops) = cc in
        ap (λ (ls : List Loop). (x.0, true) ∷ ls) (r t)
    by_case false false f r s = ap (λ (ls : List Loop). (x.0, false) ∷ ls) (s f)
    by_case true false f r s = absurd (later h n (suc n) d loops (take d (kept_at g (suc n) loops)) (omega arith) f)
    by_case false true f r s = absurd (later g n (suc n) d loops (take d (kept_at h (suc n) loops)) (omega arith) (sym f))

-- a level's size stands among the loops up to it
size_until : (ls : List Loop) (k : ℕ) → slice_index (kept_sizes ls) k ≡ slice_index (kept_sizes (until (suc k) ls)) k
size_until [] k = refl
size_until ((s, true) ∷ ls) zero = refl
size_until ((s, true) ∷ ls) (suc k) = size_until ls k
size_until ((s, false) ∷ ls) k = size_until ls k

module _ (t : TermData) (g h d : ℕ) (same : take d (kept_at g 0 t.loops) ≡ take d (kept_at h 0 t.loops)) where
  in_same : (p : List ℕ) → length p ≤ d → in_reduced t g p ≡ in_reduced t h p
  in_same p l = ap (λ (ls : List Loop). list_any (in_whole t) (fill ls p)) (until_same g h 0 d (length p) t.loops same l)

  size_same : (k : ℕ) → k < d → slice_index (reduced_sizes t g) k ≡ slice_index (reduced_sizes t h) k
  size_same k l =
      size_until (kept_loops g t.loops) k
      ∙ ap (λ (ls : List Loop). slice_index (kept_sizes ls) k) (until_same g h 0 d (suc k) t.loops same (omega (arith, l)))
      ∙ sym (size_until (kept_loops h t.loops) k)

  -- the levels down to there are the same
  pub levels-same : path_fibers (in_reduced t g) (reduced_sizes t g) d ≡ path_fibers (in_reduced t h) (reduced_sizes t h) d
  levels-same =
      paths-same (in_reduced t g) (in_reduced t h) (reduced_sizes t g) (reduced_sizes t h) refl d
      (λ e p less i.
      ap (λ (n : ℕ). map (λ c. p ++ c ∷ []) (filter (λ c. in_reduced t g (p ++ c ∷ [])) (below n)))
      (size_same (length p) (omega (arith, i.count, less)))
      ∙ ap (λ (cs : List ℕ). map (λ c. p ++ c ∷ []) cs)
      (filter-ext (λ c. in_reduced t g (p ++ c ∷ [])) (λ c. in_reduced t h (p ++ c ∷ []))
      (λ c. in_same (p ++ c ∷ []) (omega (arith, length_push p c, i.count, less))) (below (slice_index (reduced_sizes t h) (length p)))))

  -- and so are their coordinates
  pub coordinates-same : d < 9 → stream_at (reduced_shape t g 9 d) Coordinate ≡ stream_at (reduced_shape t h 9 d) Coordinate
  coordinates-same few =
      coordinates-unpruned t g d few ∙ ap (told coordinate) levels-same ∙ sym (coordinates-unpruned t h d few)

-- where no loop is gone, those of the product tree
pub coordinates-product : (t : TermData) (g d : ℕ) → take d (kept_at g 0 t.loops) ≡ take d (kept_at 0 0 t.loops) → d < 9 → d ≤ length t.loops
    → stream_at (reduced_shape t g 9 d) Coordinate ≡ product_stream t d (final t d) Coordinate
coordinates-product t g d same few deep =
    coordinates-unpruned t g d few
    ∙ ap (told coordinate) (levels-same t g 0 d same ∙ same-whole t d deep ∙ sym (paths-final t d (loop_sizes t.loops)))
    ∙ sym (stream-over (product_shape t d (final t d)) Coordinate)
