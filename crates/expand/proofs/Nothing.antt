-- Where nothing is found, the number that is denoted is 0.
use Rattle.std.specs.Prelude.{◌≡◌, ℕ, zero, suc, ◌+◌, ◌*◌, ◌-◌, ◌^◌, ◌%◌, Bool, true, false, ◌&&◌, ◌||◌, List, [], ◌∷◌, refl}
use mathlib.Core.List.{map}
use Rattle.std.proofs.Common.{arith, ap, ◌∙◌, mul-zero, zero-mul}
use Rattle.std.proofs.lemmas.Bool.{or_parts}
use Rattle.sam_model.specs.declared.tensors.Tensor.{Tensor}
use Rattle.sam_model.specs.declared.tensors.Entries.{Entries}
use Rattle.sam_model.specs.Trees.{ExprTree, Access, Literal, Times, Plus, Minus, Negate, Sum, TopTree}
use Rattle.sam_model.specs.Lists.{items_at}
use Rattle.sam_model.specs.Expressions.{Tuple, with_at, number_values, presence_values, sum_first, sum_over, negative_if, expr_value, tops_value, access_number, access_presence, at_left}
use Rattle.sam_model.specs.Denote.{stored_of, tensor_at, order_at}
use Rattle.sam_model.proofs.Stored.{value-unstored}
use Rattle.expand.specs.Laws.{NothingIsZero}

-- a number is 0 where nothing is there
abbrev Empty : Bool → ℕ → Type 0
Empty there n = there ≡ false → n ≡ 0

sum_of_zeros : (a b : ℕ) → a ≡ 0 → b ≡ 0 → a + b ≡ 0
sum_of_zeros a b h k = omega (arith, h, k)

either : (a b : Bool) (m n : ℕ) → Empty a m → Empty b n → Empty (a || b) (m + n)
either a b m n h k e = let parts = or_parts a b e in sum_of_zeros m n (h parts.0) (k parts.1)

both : (a b : Bool) (m n : ℕ) → Empty a m → Empty b n → Empty (a && b) (m * n)
both true b m n h k e = ap (λ (x : ℕ). m * x) (k e) ∙ mul-zero m
both false b m n h k e = ap (λ (x : ℕ). x * n) (h refl) ∙ zero-mul n

turned : (a : Bool) (n : ℕ) → Empty a n → Empty (true && a) ((2 ^ 64 - 1) * n)
turned a n h = both true a (2 ^ 64 - 1) n (λ e. absurd (cc)) h

module _ (sizes : List ℕ) (number : ℕ → List ℕ → ℕ) (presence : ℕ → List ℕ → Bool) (empty : (n : ℕ) (x : List ℕ) → Empty (presence n x) (number n x)) where
  sum-empty : (n : ℕ) (there : ℕ → Bool) (f : ℕ → ℕ) → ((v : ℕ) → Empty (there v) (f v))
      → Empty (sum_first presence_values n there) (sum_first number_values n f)
  sum-empty zero there f h e = refl
  sum-empty (suc n) there f h e =
      either (sum_first presence_values n there) (there n) (sum_first number_values n f) (f n) (sum-empty n there f h) (h n) e

  over-empty : (ks : List ℕ) (there : Tuple → Bool) (f : Tuple → ℕ) → ((s : Tuple) → Empty (there s) (f s)) → (s : Tuple)
      → Empty (sum_over presence_values sizes ks there s) (sum_over number_values sizes ks f s)
  over-empty [] there f h s = h s
  over-empty (k ∷ ks) there f h s =
      over-empty ks _ _ (λ r. sum-empty _ (λ v. there (with_at r k v)) (λ v. f (with_at r k v)) (λ v. h (with_at r k v))) s

  expr-empty : (e : ExprTree) (s : Tuple) → Empty (expr_value presence_values sizes presence e s) (expr_value number_values sizes number e s)
  expr-empty (Access n vars) s = empty n (map s vars)
  expr-empty (Literal n) s = (λ e. absurd (cc))
  expr-empty (Times a b) s = both _ _ _ _ (expr-empty a s) (expr-empty b s)
  expr-empty (Plus a b) s = either _ _ _ _ (expr-empty a s) (expr-empty b s)
  expr-empty (Minus a b) s = either _ _ _ _ (expr-empty a s) (turned _ _ (expr-empty b s))
  expr-empty (Negate a) s = turned _ _ (expr-empty a s)
  expr-empty (Sum k a) s =
      sum-empty _ (λ v. expr_value presence_values sizes presence a (with_at s k v)) (λ v. expr_value number_values sizes number a (with_at s k v))
      (λ v. expr-empty a (with_at s k v))

  signed-empty : (minus there : Bool) (n : ℕ) → Empty there n → Empty (negative_if presence_values minus there) (negative_if number_values minus n)
  signed-empty true there n h = turned there n h
  signed-empty false there n h = h

  tops-empty : (tops : List TopTree) (s : Tuple) → Empty (tops_value presence_values sizes presence tops s) (tops_value number_values sizes number tops s)
  tops-empty [] s = (λ e. refl)
  tops-empty (t ∷ tops) s =
      either _ _ _ _
      (signed-empty t.minus _ _ (over-empty t.implied (expr_value presence_values sizes presence t.body) (expr_value number_values sizes number t.body) (expr-empty t.body) s))
      (tops-empty tops s)

access-empty : (tensors : List Tensor) (es : List Entries) (n : ℕ) (x : List ℕ) → Empty (access_presence tensors es n x) (access_number tensors es n x)
access-empty tensors es n x = value-unstored (tensor_at (stored_of tensors es) n) (items_at x (order_at tensors n))

pub nothing-is-zero : NothingIsZero
nothing-is-zero p es x e =
    ap (λ (n : ℕ). n % 2 ^ 64)
    (tops-empty p.var_sizes (access_number p.tensors es) (access_presence p.tensors es) (access-empty p.tensors es) p.tops
    (at_left (items_at p.left p.result.order) x) e)
