-- The step from the stored prefixes of a length to the next ones, by rows.
use Rattle.std.proofs.Common.{◌≡◌, ℕ, suc, ◌+◌, ◌*◌, ◌<◌, List, [], Some, Result, Ok, Err, length, ap, sym, ◌∙◌, subst, arith}
use Rattle.std.specs.Prelude.{slice_get, slice_index, slice_index_or}
use Rattle.std.specs.Result.{IfOk}
use mathlib.Core.List.{map}
use Rattle.std.proofs.lemmas.List.{get_or-map, length-map}
use Rattle.sam_model.specs.declared.tensors.Tensor.{Tensor}
use Rattle.sam_model.specs.declared.tensors.Format.{Format}
use Rattle.sam_model.specs.declared.tensors.Format.TheVariants.{Dense, Compressed}
use Rattle.sam_model.specs.Tensors.{stored_prefixes}
use Rattle.sam_model.specs.Children.{children_of}
use Rattle.levels.specs.declared.rows.Row.{Row}
use Rattle.levels.specs.Arrays.{dense_children}
use Rattle.sam_base.specs.Each.{Each}
use Rattle.sam_model.proofs.Lists.{Each-weaker}
use Rattle.levels.specs.Sorted.{Sorted}
use Rattle.levels.specs.Matches.{IsStorable}
use Rattle.levels.specs.Pairs.{NotAfter, with_pairs}
use Rattle.levels.specs.Placed.{InOrder, Placed}
use Rattle.levels.specs.Rows.{of_rows, row_pairs}
use Rattle.levels.specs.Shown.{pair_children}
use Rattle.levels.proofs.Levels.{level-pairs-inside, level-pairs-sorted, dense-count, dense-children-of, dense-placed, compressed-count, compressed-children-of, compressed-placed}
use Rattle.levels.proofs.RowLemmas.{row_pairs-entries}

-- ---- what a result holds

pub ok-from : {T E : Type 0} (P Q : T → Type 0) (r : Result T E) → ((x : T) → P x → Q x) → IfOk r P → IfOk r Q
ok-from P Q (Ok x) f h = f x h
ok-from P Q (Err e) f h = h

pub ok-from-two : {T E : Type 0} (P Q R : T → Type 0) (r : Result T E) → ((x : T) → P x → Q x → R x) → IfOk r P → IfOk r Q → IfOk r R
ok-from-two P Q R (Ok x) f h k = f x h k
ok-from-two P Q R (Err e) f h k = h

pub ok-from-three : {T E : Type 0} (P Q S R : T → Type 0) (r : Result T E) → ((x : T) → P x → Q x → S x → R x) → IfOk r P → IfOk r Q → IfOk r S → IfOk r R
ok-from-three P Q S R (Ok x) f h k l = f x h k l
ok-from-three P Q S R (Err e) f h k l = h

module _ (t : Tensor) (rows : List Row) (place count : ℕ) (ranks : List ℕ) (ok : IsStorable t) (inside : place < length t.order) (order : InOrder (of_rows t rows)) (placed : Placed (of_rows t rows) place count ranks) where
  in-sizes : place < length (of_rows t rows).sizes
  in-sizes = let e = length-map t.order (slice_index t.dims) in omega arith

  pairs-are : row_pairs ranks place rows ≡ Rattle.levels.specs.Placed.pairs_at ranks place (of_rows t rows).entries
  pairs-are = row_pairs-entries ranks place (length t.order) rows inside

  size-is : (size mode : ℕ) → mode ≡ slice_index t.order place → size ≡ slice_index t.dims mode → size ≡ slice_index (of_rows t rows).sizes place
  size-is size mode m e = e ∙ ap (slice_index t.dims) m ∙ sym (get_or-map (slice_index t.dims) t.order place 0 0 inside)

  pub row-pairs-inside : (size mode : ℕ) → mode ≡ slice_index t.order place → size ≡ slice_index t.dims mode → Each (λ x. (x.0 < count) × (x.1 < size)) (row_pairs ranks place rows)
  row-pairs-inside size mode m e =
      subst (λ (ps : List (ℕ × ℕ)). Each (λ x. (x.0 < count) × (x.1 < size)) ps) (sym pairs-are)
      (subst (λ (s : ℕ). Each (λ x. (x.0 < count) × (x.1 < s)) (Rattle.levels.specs.Placed.pairs_at ranks place (of_rows t rows).entries)) (sym (size-is size mode m e))
      (level-pairs-inside (of_rows t rows) order place in-sizes count ranks placed))

  pub row-parents-inside : Each (λ x. x.0 < count) (row_pairs ranks place rows)
  row-parents-inside =
      subst (λ (ps : List (ℕ × ℕ)). Each (λ x. x.0 < count) ps) (sym pairs-are)
      (Each-weaker (λ x. (x.0 < count) × (x.1 < slice_index (of_rows t rows).sizes place)) (λ x. x.0 < count) (λ x h. h.0) (Rattle.levels.specs.Placed.pairs_at ranks place (of_rows t rows).entries)
      (level-pairs-inside (of_rows t rows) order place in-sizes count ranks placed))

  pub row-pairs-sorted : Sorted NotAfter (row_pairs ranks place rows)
  row-pairs-sorted = subst (Sorted NotAfter) (sym pairs-are) (level-pairs-sorted (of_rows t rows) order place in-sizes count ranks placed)

  -- ---- a dense level

  module _ (size mode : ℕ) (m : mode ≡ slice_index t.order place) (e : size ≡ slice_index t.dims mode) (f : Format) (there : slice_get t.formats place ≡ Some f) (is : f ≡ Dense) where
    at-dense : slice_get (of_rows t rows).formats place ≡ Some Dense
    at-dense = there ∙ ap (λ x. Some x) is

    pub dense-next-children : dense_children size count ≡ children_of (of_rows t rows) (suc place)
    dense-next-children = ap (λ s. dense_children s count) (size-is size mode m e) ∙ dense-children-of (of_rows t rows) order place in-sizes count ranks placed at-dense

    pub dense-next-count : count * size ≡ length (stored_prefixes (of_rows t rows) (suc place))
    dense-next-count = ap (λ s. count * s) (size-is size mode m e) ∙ dense-count (of_rows t rows) order place in-sizes count ranks placed at-dense

    pub dense-next-placed : (next_count : ℕ) (next : List ℕ) → next_count ≡ count * size → next ≡ map (λ x. x.0 * size + x.1) (row_pairs ranks place rows) → Placed (of_rows t rows) (suc place) next_count next
    dense-next-placed next_count next c n =
        let s = size-is size mode m e in
        let c' : next_count ≡ count * slice_index (of_rows t rows).sizes place = c ∙ ap (λ s. count * s) s in
        let n' : next ≡ map (λ x. x.0 * slice_index (of_rows t rows).sizes place + x.1) (Rattle.levels.specs.Placed.pairs_at ranks place (of_rows t rows).entries)
        = n ∙ ap (λ z. map (λ x. x.0 * z + x.1) (row_pairs ranks place rows)) s ∙ ap (map (λ x. x.0 * slice_index (of_rows t rows).sizes place + x.1)) pairs-are in
        subst (λ (z : List ℕ). Placed (of_rows t rows) (suc place) next_count z) (sym n')
        (subst (λ (z : ℕ). Placed (of_rows t rows) (suc place) z (map (λ x. x.0 * slice_index (of_rows t rows).sizes place + x.1) (Rattle.levels.specs.Placed.pairs_at ranks place (of_rows t rows).entries))) (sym c')
        (dense-placed (of_rows t rows) order place in-sizes count ranks placed at-dense))

  -- ---- a compressed level

  module _ (f : Format) (there : slice_get t.formats place ≡ Some f) (is : f ≡ Compressed) where
    at-compressed : slice_get (of_rows t rows).formats place ≡ Some Compressed
    at-compressed = there ∙ ap (λ x. Some x) is

    pub compressed-next-children : pair_children (with_pairs [] (row_pairs ranks place rows)) count ≡ children_of (of_rows t rows) (suc place)
    compressed-next-children = ap (λ ps. pair_children (with_pairs [] ps) count) pairs-are ∙ compressed-children-of (of_rows t rows) order place in-sizes count ranks placed at-compressed

    pub compressed-next-count : length (with_pairs [] (row_pairs ranks place rows)) ≡ length (stored_prefixes (of_rows t rows) (suc place))
    compressed-next-count = ap (λ ps. length (with_pairs [] ps)) pairs-are ∙ compressed-count (of_rows t rows) order place in-sizes count ranks placed at-compressed

    pub compressed-next-placed : (next_count : ℕ) (next : List ℕ) → next_count ≡ length (with_pairs [] (row_pairs ranks place rows)) → Each (λ r. r < length (with_pairs [] (row_pairs ranks place rows))) next
        → map (λ r. slice_index_or (with_pairs [] (row_pairs ranks place rows)) r (0, 0)) next ≡ row_pairs ranks place rows → Placed (of_rows t rows) (suc place) next_count next
    compressed-next-placed next_count next c all at =
        subst (λ (z : ℕ). Placed (of_rows t rows) (suc place) z next) (sym (c ∙ ap (λ ps. length (with_pairs [] ps)) pairs-are))
        (compressed-placed (of_rows t rows) order place in-sizes count ranks placed at-compressed next
        (subst (λ (ps : List (ℕ × ℕ)). Each (λ r. r < length (with_pairs [] ps)) next) pairs-are all)
        (subst (λ (ps : List (ℕ × ℕ)). map (λ r. slice_index_or (with_pairs [] ps) r (0, 0)) next ≡ ps) pairs-are at))
