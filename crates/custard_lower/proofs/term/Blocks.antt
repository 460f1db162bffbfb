-- One block more, where blocks are made over a range of numbers.
use Rattle.std.proofs.Common.{◌≡◌, ◌∙◌, ◌<◌, ◌≤◌, ap, sym, arith, ℕ, suc, ◌+◌, ◌-◌, List, [], ◌∷◌, ◌++◌, append_assoc, refl}
use mathlib.Core.List.{map}
use Rattle.std.specs.List.{range_with_len}
use Rattle.std.proofs.lemmas.List.FromFn.{map-range_with_len_more}
use Rattle.custard_lower.specs.declared.drafts.Made.{Made}
use Rattle.custard_lower.specs.declared.trees.TermTrees.{TermTrees}
use Rattle.label_rules.specs.declared.plans.Plan.{Plan}
use Rattle.custard_lower.specs.Drafts.{outputs_of}
use Rattle.custard_lower.specs.Values.{Valued, product, multiplied}
use Rattle.custard_lower.proofs.term.Counting.{range_further}

-- blocks for the numbers below k, and one for k
pub blocks_more : (made : List Made) (block : ℕ → Made) (k : ℕ)
    → made ++ map block (range_with_len 0 (k + 1)) ≡ (made ++ map block (range_with_len 0 k)) ++ block k ∷ []
blocks_more made block k =
    let e : 0 + k ≡ k = omega arith in
    ap (λ more. made ++ more) (map-range_with_len_more block 0 k k e)
    ∙ sym (append_assoc made (map block (range_with_len 0 k)) (block k ∷ []))

module _ (trees : TermTrees) (t : Plan) where
  -- the product with one factor more
  pub product_next : (v : Valued) (w k n : ℕ) → k < n
      → multiplied trees t v (w + k) (range_with_len k (n - k))
      ≡ multiplied trees t (record { made = v.made ++ product trees t k v.values (w + k) ∷ []; values = outputs_of v.made })
      (w + (k + 1))
      (range_with_len (k + 1) (n - (k + 1)))
  product_next v w k n h =
      let e : w + (k + 1) ≡ suc (w + k) = omega arith in
      rw (e, range_further k n h) refl

  -- the product of no factor more
  pub product_ends : (v : Valued) (w k n : ℕ) → n ≤ k → multiplied trees t v (w + k) (range_with_len k (n - k)) ≡ v
  product_ends v w k n h = let e : n - k ≡ 0 = omega arith in rw e refl
