-- Streams that have more than one label, and the steps of products.
use Rattle.std.specs.Prelude.{◌≡◌, ◌<◌, ◌≤◌, ℕ, zero, suc, ◌*◌, ◌%◌, ◌^◌, Bool, cond, List, [], ◌∷◌, length, take, Some, None, refl}
use Rattle.std.proofs.Common.{arith, sym, ◌∙◌, ap, subst, mul_assoc, mul_comm, mul-one, one-mul}
use Rattle.sam_model.specs.Tensors.{rank_of, value_at}
use Rattle.stream_tokens.specs.Nest.{Fiber}
use Rattle.stream_tokens.specs.Shapes.{on_tokens, EachToken}
use Rattle.stream_tokens.proofs.Algebra.{on_tokens-ext}
use Rattle.stream_model.specs.declared.labels.Attr.TheVariants.{Rank, Whole, Value, Literal}
use Rattle.stream_model.specs.Grow.{path_fibers}
use Rattle.stream_model.specs.Terms.{Operand, TermData, restricted, access_at, product_of, partial_product, whole_product}
use Rattle.stream_model.specs.Trees.{in_product, in_whole, in_pruned, value_reduced, reduced_sizes}
use Rattle.stream_model.specs.Labels.{loop_sizes, root_shape, product_shape, reduced_shape, fibers_at}
use Rattle.stream_model.specs.Masks.{final}
use Rattle.stream_model.proofs.Grown.{InTree, paths-InTree}
use Rattle.stream_model.proofs.Prefixes.{keep-none}
use Rattle.stream_model.proofs.Products.{paths-final}
use Rattle.stream_model.proofs.Reduced.{same-whole, value-full}
use Rattle.stream_model.proofs.Pruned.{paths-unpruned}
use Rattle.sam_model.proofs.Moduli.{mod-mul-mod}

-- ---- the product tree, as a reduced tree that isn't pruned

-- where no loop is gone
pub product-whole : (t : TermData) (d : ℕ) → d ≤ length t.loops → d < 9
    → path_fibers (in_pruned t 0 9) (reduced_sizes t 0) d ≡ path_fibers (in_product t d (final t d)) (loop_sizes t.loops) d
product-whole t d h few = paths-unpruned t 0 9 d few ∙ same-whole t d h ∙ sym (paths-final t d (loop_sizes t.loops))

-- the products are the values of the tree where no loop is gone
pub whole-value : (t : TermData) → length t.loops < 9
    → fibers_at (product_shape t (length t.loops) (final t (length t.loops))) Whole ≡ fibers_at (reduced_shape t 0 9 (length t.loops)) Value
whole-value t few =
    on_tokens-ext (InTree (in_whole t) (loop_sizes t.loops) d) (λ p. Some (whole_product t p)) (value_reduced t 0) one (path_fibers (in_product t d (final t d)) (loop_sizes t.loops) d)
    (subst (EachToken (InTree (in_whole t) (loop_sizes t.loops) d)) (sym (paths-final t d (loop_sizes t.loops))) (paths-InTree (in_whole t) (loop_sizes t.loops) refl d))
    ∙ ap (λ (fs : List (Fiber (List ℕ))). on_tokens (value_reduced t 0) fs) (sym (product-whole t d (omega arith) few))
  where
    d : ℕ
    d = length t.loops

    one : (p : List ℕ) → InTree (in_whole t) (loop_sizes t.loops) (length t.loops) p → Some (whole_product t p) ≡ value_reduced t 0 p
    one p h = sym (value-full t p h.count ∙ ap (λ b. cond b (Some (whole_product t p)) None) h.passes)

-- ---- the root

-- every access's rank is 0 there
pub root-rank : (t : TermData) (mask : List Bool) (f : ℕ) → fibers_at (product_shape t 0 mask) (Rank f) ≡ fibers_at root_shape (Literal 0)
root-rank t mask f =
    ap (λ (p : List ℕ). ((Some (rank_of (access_at t.accesses f).tensor p) ∷ []), 0) ∷ []) (keep-none (access_at t.accesses f).has)

-- ---- products

product_take : (accesses : List Operand) (k : ℕ) (u : List ℕ) → k < length accesses
    → product_of (take (suc k) accesses) u ≡ product_of (take k accesses) u * value_at (access_at accesses k).tensor (restricted (access_at accesses k) u)
product_take [] k u h = absurd (omega (arith, h))
product_take (a ∷ accesses) zero u h = mul-one (value_at a.tensor (restricted a u)) ∙ sym (one-mul (value_at a.tensor (restricted a u)))
product_take (a ∷ accesses) (suc k) u h =
    ap (λ (n : ℕ). value_at a.tensor (restricted a u) * n) (product_take accesses k u (omega (arith, h)))
    ∙ sym (mul_assoc (value_at a.tensor (restricted a u)) (product_of (take k accesses) u) (value_at (access_at accesses k).tensor (restricted (access_at accesses k) u)))

-- one access more
pub partial-more : (accesses : List Operand) (k : ℕ) (u : List ℕ) → k < length accesses
    → partial_product (take (suc k) accesses) u ≡ (partial_product (take k accesses) u * value_at (access_at accesses k).tensor (restricted (access_at accesses k) u)) % 2 ^ 64
partial-more accesses k u h =
    ap (λ (n : ℕ). n % 2 ^ 64) (product_take accesses k u h)
    ∙ sym (mod-mul-mod (2 ^ 64) (product_of (take k accesses) u) (value_at (access_at accesses k).tensor (restricted (access_at accesses k) u)))

-- the product of all with the coefficient
pub whole-partial : (t : TermData) (u : List ℕ) → whole_product t u ≡ (partial_product t.accesses u * t.coefficient) % 2 ^ 64
whole-partial t u =
    ap (λ (n : ℕ). n % 2 ^ 64) (mul_comm t.coefficient (product_of t.accesses u)) ∙ sym (mod-mul-mod (2 ^ 64) (product_of t.accesses u) t.coefficient)

-- where there is no literal
pub whole-plain : (t : TermData) (u : List ℕ) → t.coefficient ≡ 1 → whole_product t u ≡ partial_product t.accesses u
whole-plain t u h = ap (λ (n : ℕ). (n * product_of t.accesses u) % 2 ^ 64) h ∙ ap (λ (n : ℕ). n % 2 ^ 64) (one-mul (product_of t.accesses u))
