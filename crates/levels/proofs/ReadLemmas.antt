-- What is read of a level's arrays.
use Rattle.std.proofs.Common.{◌≡◌, ℕ, ◌+◌, ◌-◌, ◌*◌, ◌<◌, ◌≤◌, List, [], length, Some, refl, ap, sym, ◌∙◌, arith, zero-add}
use Rattle.std.specs.Prelude.{slice_get, slice_index, slice_index_or}
use Rattle.std.specs.List.{range_with_len}
use mathlib.Core.List.{map}
use Rattle.std.proofs.lemmas.List.FromFn.{length-map-range_with_len, get_or-map-range_with_len}
use Rattle.std.proofs.lemmas.Option.{slice_get-get_or}
use Rattle.std.proofs.lemmas.Nat.{mul-add-lt}
use Rattle.std.proofs.Math.Nat.{mul_comm}
use Rattle.sam_model.specs.Lists.{below}
use Rattle.levels.specs.Arrays.{dense_children, fiber, fibers}

-- an item of a list that a function makes of a range
pub ranged_item : {A : Type 0} (f : ℕ → A) (a n i j : ℕ) → i < n → a + i ≡ j → slice_get (map f (range_with_len a n)) i ≡ Some (f j)
ranged_item f a n i j h e =
    let inside : i < length (map f (range_with_len a n)) = rw (length-map-range_with_len f a n) h in
    slice_get-get_or (map f (range_with_len a n)) i (f j) inside ∙ ap (λ x. Some x) (get_or-map-range_with_len f a n i j (f j) h e)

-- ---- dense levels

pub dense-length : (size parents : ℕ) → length (dense_children size parents) ≡ parents
dense-length size parents = length-map-range_with_len (λ r. map (λ c. (c, r * size + c)) (below size)) 0 parents

pub dense-fiber : (size parents r : ℕ) → r < parents → slice_index_or (dense_children size parents) r [] ≡ map (λ c. (c, r * size + c)) (below size)
dense-fiber size parents r h = get_or-map-range_with_len (λ r. map (λ c. (c, r * size + c)) (below size)) 0 parents r r [] h (zero-add r)

pub dense-in-range : (size parents r : ℕ) → r < length (dense_children size parents) → r < parents
dense-in-range size parents r h = rw (dense-length size parents) at h

pub dense-fiber_len : (size parents r : ℕ) → r < length (dense_children size parents) → size ≡ length (slice_index_or (dense_children size parents) r [])
dense-fiber_len size parents r h =
    sym (ap length (dense-fiber size parents r (dense-in-range size parents r h)) ∙ length-map-range_with_len (λ c. (c, r * size + c)) 0 size)

pub dense-child-in-range : (size parents r n : ℕ) → r < length (dense_children size parents) → n < length (slice_index_or (dense_children size parents) r []) → n < size
dense-child-in-range size parents r n h k = rw (← dense-fiber_len size parents r h) at k

pub dense-child : (size parents r n : ℕ) → r < length (dense_children size parents) → n < length (slice_index_or (dense_children size parents) r [])
    → slice_get (slice_index_or (dense_children size parents) r []) n ≡ Some (n, r * size + n)
dense-child size parents r n h k =
    ap (λ xs. slice_get xs n) (dense-fiber size parents r (dense-in-range size parents r h))
    ∙ ranged_item (λ c. (c, r * size + c)) 0 size n n (dense-child-in-range size parents r n h k) (zero-add n)

-- the rank of a child is below the number of children
pub dense-small : (size parents r n : ℕ) → r < length (dense_children size parents) → n < length (slice_index_or (dense_children size parents) r []) → r * size + n < parents * size
dense-small size parents r n h k =
    rw (mul_comm parents size) (mul-add-lt r size n parents (dense-in-range size parents r h) (dense-child-in-range size parents r n h k))

-- ---- compressed levels

pub fibers-length : (segments coordinates : List ℕ) → length (fibers segments coordinates) ≡ length segments - 1
fibers-length segments coordinates =
    length-map-range_with_len (λ r. fiber coordinates (slice_index segments r) (slice_index segments (r + 1) - slice_index segments r)) 0 (length segments - 1)

pub fibers-in-range : (segments coordinates : List ℕ) (r : ℕ) → r < length (fibers segments coordinates) → r + 1 < length segments
fibers-in-range segments coordinates r h = omega (arith, fibers-length segments coordinates)

pub fibers-fiber : (segments coordinates : List ℕ) (r : ℕ) → r < length (fibers segments coordinates)
    → slice_index_or (fibers segments coordinates) r [] ≡ fiber coordinates (slice_index segments r) (slice_index segments (r + 1) - slice_index segments r)
fibers-fiber segments coordinates r h =
    get_or-map-range_with_len (λ r. fiber coordinates (slice_index segments r) (slice_index segments (r + 1) - slice_index segments r)) 0 (length segments - 1) r r [] (omega (arith, fibers-length segments coordinates)) (zero-add r)

pub fibers-fiber_len : (segments coordinates : List ℕ) (r : ℕ) → r < length (fibers segments coordinates)
    → slice_index segments (r + 1) - slice_index segments r ≡ length (slice_index_or (fibers segments coordinates) r [])
fibers-fiber_len segments coordinates r h =
    sym (ap length (fibers-fiber segments coordinates r h)
    ∙ length-map-range_with_len (λ j. (slice_index coordinates j, j)) (slice_index segments r) (slice_index segments (r + 1) - slice_index segments r))

pub fibers-child : (segments coordinates : List ℕ) (r n : ℕ) → r < length (fibers segments coordinates) → n < length (slice_index_or (fibers segments coordinates) r [])
    → slice_get (slice_index_or (fibers segments coordinates) r []) n ≡ Some (slice_index coordinates (slice_index segments r + n), slice_index segments r + n)
fibers-child segments coordinates r n h k =
    ap (λ xs. slice_get xs n) (fibers-fiber segments coordinates r h)
    ∙ ranged_item (λ j. (slice_index coordinates j, j)) (slice_index segments r) (slice_index segments (r + 1) - slice_index segments r) n (slice_index segments r + n)
    (rw (fibers-fiber_len segments coordinates r h) k) refl

-- the place of a child is within the coordinates
pub fibers-within : (segments coordinates : List ℕ) (r n : ℕ) → ((r : ℕ) → r < length segments → slice_index segments r ≤ length coordinates)
    → r < length (fibers segments coordinates) → n < length (slice_index_or (fibers segments coordinates) r []) → slice_index segments r + n < length coordinates
fibers-within segments coordinates r n bound h k =
    let last = bound (r + 1) (fibers-in-range segments coordinates r h) in
    omega (arith, fibers-fiber_len segments coordinates r h)
