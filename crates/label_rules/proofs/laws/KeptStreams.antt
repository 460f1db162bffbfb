-- Streams that stay the same where a loop is taken away, and those of the tree where none is gone.
use Rattle.std.specs.Prelude.{◌≡◌, ◌<◌, ◌≤◌, ℕ, suc, List, length}
use Rattle.std.proofs.Common.{arith, sym, ◌∙◌, ap}
use Rattle.sam_model.specs.Denote.{Loop}
use Rattle.stream_tokens.specs.declared.Token.TheVariants.{Item}
use Rattle.stream_tokens.specs.Nest.{Leaf, leaf, Fiber}
use Rattle.stream_tokens.specs.Flat.{flat}
use Rattle.stream_model.specs.declared.labels.Attr.TheVariants.{Coordinate, Whole, Value}
use Rattle.stream_model.specs.Grow.{path_fibers}
use Rattle.stream_model.specs.Terms.{TermData}
use Rattle.stream_model.specs.Trees.{in_reduced, value_reduced, reduced_sizes}
use Rattle.stream_model.specs.Labels.{last, product_shape, reduced_shape, stream_at}
use Rattle.stream_model.specs.Masks.{final}
use Rattle.stream_model.specs.Reduction.{Reduces}
use Rattle.stream_model.proofs.Reduced.{same-before, same-after}
use Rattle.stream_model.proofs.Pruned.{paths-unpruned}
use Rattle.stream_model.proofs.Bridges.{product-whole, whole-value}
use Rattle.stream_model.proofs.Streams.{stream_at-flat}
use Rattle.label_rules.proofs.laws.Following.{coordinates-written, values-written}
use Rattle.label_rules.proofs.term.Loops.{levels-reduced}

-- ---- trees that aren't pruned

-- the coordinates of a reduced tree that isn't pruned are the last ones of its prefixes
pub coordinates-unpruned : (t : TermData) (g d : ℕ) → d < 9
    → stream_at (reduced_shape t g 9 d) Coordinate
    ≡ flat (λ p. Item (last p)) (path_fibers (in_reduced t g) (reduced_sizes t g) d)
coordinates-unpruned t g d few =
    coordinates-written (reduced_shape t g 9 d)
    ∙ ap (λ (fs : List (Fiber (List ℕ))). flat (λ p. Item (last p)) fs) (paths-unpruned t g 9 d few)

-- and its values are those of its prefixes
pub values-unpruned : (t : TermData) (g d : ℕ) → d < 9
    → stream_at (reduced_shape t g 9 d) Value
    ≡ flat (λ p. leaf (value_reduced t g p)) (path_fibers (in_reduced t g) (reduced_sizes t g) d)
values-unpruned t g d few =
    values-written (reduced_shape t g 9 d)
    ∙ ap (λ (fs : List (Fiber (List ℕ))). flat (λ p. leaf (value_reduced t g p)) fs) (paths-unpruned t g 9 d few)

-- ---- streams that stay

-- the prefixes of the loops before a reduced one stay
pub prefixes-kept : (t : TermData) (before : List Loop) (s : ℕ) (after : List Loop) (g k : ℕ) → Reduces t before s after g
    → k ≤ length before
    → path_fibers (in_reduced t g) (reduced_sizes t g) k ≡ path_fibers (in_reduced t (suc g)) (reduced_sizes t (suc g)) k
prefixes-kept t before s after g k r h = same-before t before s after g k r h ∙ sym (same-after t before s after g k r h)

-- and so do their coordinates
pub coordinates-kept : (t : TermData) (before : List Loop) (s : ℕ) (after : List Loop) (g k : ℕ) → Reduces t before s after g
    → k ≤ length before
    → stream_at (reduced_shape t g 9 k) Coordinate ≡ stream_at (reduced_shape t (suc g) 9 k) Coordinate
coordinates-kept t before s after g k r h =
    coordinates-unpruned t g k few
    ∙ ap (λ (fs : List (Fiber (List ℕ))). flat (λ p. Item (last p)) fs) (prefixes-kept t before s after g k r h)
    ∙ sym (coordinates-unpruned t (suc g) k few)
  where
    few : k < 9
    few = omega (arith, h, levels-reduced t before s after g r)

-- ---- where no loop is gone

-- the final coordinates of a product tree are those of the tree where no loop is gone
pub coordinates-whole : (t : TermData) (k : ℕ) → k ≤ length t.loops → length t.loops < 9
    → stream_at (product_shape t k (final t k)) Coordinate ≡ stream_at (reduced_shape t 0 9 k) Coordinate
coordinates-whole t k h few =
    coordinates-written (product_shape t k (final t k))
    ∙ ap (λ (fs : List (Fiber (List ℕ))). flat (λ p. Item (last p)) fs) (sym (product-whole t k h (omega (arith, h, few))))
    ∙ sym (coordinates-written (reduced_shape t 0 9 k))

-- and its products are the values of that tree
pub values-whole : (t : TermData) → length t.loops < 9
    → stream_at (product_shape t (length t.loops) (final t (length t.loops))) Whole
    ≡ stream_at (reduced_shape t 0 9 (length t.loops)) Value
values-whole t few =
    stream_at-flat (product_shape t (length t.loops) (final t (length t.loops))) Whole
    ∙ ap (λ (fs : List (Fiber Leaf)). flat leaf fs) (whole-value t few)
    ∙ sym (stream_at-flat (reduced_shape t 0 9 (length t.loops)) Value)
