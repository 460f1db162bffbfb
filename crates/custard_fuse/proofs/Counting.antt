-- What code counts one by one: labels and plans over a range, levels, and the variables that come first.
use Rattle.std.specs.Prelude.{◌≡◌, ◌<◌, ◌≤◌, ℕ, suc, ◌+◌, ◌-◌, true, false, cond, List, [], ◌∷◌, ◌++◌, length, slice_get, eqb, Some, refl}
use Rattle.std.specs.List.{range_with_len}
use mathlib.Core.List.{map}
use Rattle.std.proofs.Common.{arith, sym, ◌∙◌, ap, add-one, append_assoc}
use Rattle.std.proofs.lemmas.Option.{get_or_from_slice_get}
use Rattle.std.proofs.lemmas.List.FromFn.{map-range_with_len_more}
use Rattle.sam_model.specs.declared.program.Term.{Term}
use Rattle.sam_model.specs.declared.program.Program.{Program}
use Rattle.sam_model.specs.Lists.{is_in}
use Rattle.stream_model.specs.declared.labels.Label.{Label}
use Rattle.stream_model.specs.Terms.{mask_of}
use Rattle.stream_model.specs.Fused.{leading_marks, shared_levels}
use Rattle.label_rules.specs.declared.plans.Plan.{Plan}
use Rattle.label_rules.specs.Plans.{plan_of}
use Rattle.label_rules.specs.TermLabels.{empty_term, plan_at}
use Rattle.custard_lower.specs.declared.drafts.Made.{Made}
use Rattle.custard_lower.specs.declared.nests.Nest.{Nest}
use Rattle.custard_lower.specs.declared.trees.TermTrees.{TermTrees}
use Rattle.custard_lower.specs.Nests.{level}
use Rattle.custard_fuse.specs.Sharing.{shared_level, shared_levels_of}
use Rattle.custard_fuse.specs.Fusing.{deeper_levels}

-- labels for the numbers below k, and one for k
pub labels_more : (ls : List Label) (label : ℕ → Label) (k : ℕ)
    → ls ++ map label (range_with_len 0 (k + 1)) ≡ (ls ++ map label (range_with_len 0 k)) ++ label k ∷ []
labels_more ls label k =
    let e : 0 + k ≡ k = omega arith in
    ap (λ more. ls ++ more) (map-range_with_len_more label 0 k k e) ∙ sym (append_assoc ls (map label (range_with_len 0 k)) (label k ∷ []))

-- the plans of the terms before number n, and its own
pub plans_more : (p : Program) (n : ℕ) (t : Term) → slice_get p.terms n ≡ Some t
    → map (plan_at p) (range_with_len 0 (n + 1)) ≡ map (plan_at p) (range_with_len 0 n) ++ plan_of p (eqb n 0) t ∷ []
plans_more p n t e =
    let z : 0 + n ≡ n = omega arith in
    map-range_with_len_more (plan_at p) 0 n n z
    ∙ ap (λ (u : Term). map (plan_at p) (range_with_len 0 n) ++ plan_of p (eqb n 0) u ∷ []) (get_or_from_slice_get p.terms n t empty_term e)

module _ (last levels : ℕ) where
  -- one level more of a term
  pub deeper_more : (trees : TermTrees) (t : Plan) (d : ℕ) (n : Nest) → levels ≤ d
      → deeper_levels last levels trees t (d + 1 - levels) n ≡ level trees t d (deeper_levels last levels trees t (d - levels) n)
  deeper_more trees t d n l =
      let more : d + 1 - levels ≡ suc (d - levels) = omega (arith, l) in
      let here : levels + (d - levels) ≡ d = omega (arith, l) in
      ap (λ (k : ℕ). deeper_levels last levels trees t k n) more
      ∙ ap (λ (k : ℕ). level trees t k (deeper_levels last levels trees t (d - levels) n)) here

  -- none yet
  pub deeper_none : (trees : TermTrees) (t : Plan) (n : Nest) → deeper_levels last levels trees t (levels - levels) n ≡ n
  deeper_none trees t n = let z : levels - levels ≡ 0 = omega arith in ap (λ (k : ℕ). deeper_levels last levels trees t k n) z

-- one level more of all terms
pub shared_more : (plans : List Plan) (last levels d : ℕ) (made : List Made)
    → shared_levels_of plans last levels (d + 1) made ≡ shared_level plans last levels d (shared_levels_of plans last levels d made)
shared_more plans last levels d made = rw add-one refl

-- ---- variables that come first

-- a variable of the left is counted
pub leading_more : (left : List ℕ) (v n : ℕ) → v < n → is_in v left ≡ true
    → v + leading_marks (mask_of (range_with_len v (n - v)) left) ≡ v + 1 + leading_marks (mask_of (range_with_len (v + 1) (n - (v + 1))) left)
leading_more left v n l e =
    let next : n - v ≡ suc (n - (v + 1)) = omega (arith, l) in
    ap (λ (k : ℕ). v + leading_marks (mask_of (range_with_len v k) left)) next
    ∙ ap (λ b. v + cond b (suc (leading_marks (mask_of (range_with_len (v + 1) (n - (v + 1))) left))) 0) e
    ∙ (omega arith)

-- another ends the count
pub leading_ends : (left : List ℕ) (v n : ℕ) → v < n → is_in v left ≡ false → v + leading_marks (mask_of (range_with_len v (n - v)) left) ≡ v
leading_ends left v n l e =
    let next : n - v ≡ suc (n - (v + 1)) = omega (arith, l) in
    ap (λ (k : ℕ). v + leading_marks (mask_of (range_with_len v k) left)) next
    ∙ ap (λ b. v + cond b (suc (leading_marks (mask_of (range_with_len (v + 1) (n - (v + 1))) left))) 0) e
    ∙ (omega arith)

-- and so does the last
pub leading_all : (left : List ℕ) (v n : ℕ) → n ≤ v → v + leading_marks (mask_of (range_with_len v (n - v)) left) ≡ v
leading_all left v n l =
    let none : n - v ≡ 0 = omega (arith, l) in ap (λ (k : ℕ). v + leading_marks (mask_of (range_with_len v k) left)) none ∙ (omega arith)

pub leading_first : (p : Program) → shared_levels p ≡ 0 + leading_marks (mask_of (range_with_len 0 (length p.var_sizes - 0)) p.left)
leading_first p =
    let all : length p.var_sizes - 0 ≡ length p.var_sizes = omega arith in
    sym (ap (λ (k : ℕ). 0 + leading_marks (mask_of (range_with_len 0 k) p.left)) all ∙ (omega arith))
