-- The labels of a term's channels, by its plan.
use Rattle.std.specs.Prelude.{ℕ, zero, suc, ◌-◌, Bool, false, cond, ◌&&◌, ◌||◌, not, List, [], ◌∷◌, ◌++◌, length, take, get_or, eqb, ltb, leb, Some, None}
use Rattle.std.specs.List.{filter, range_with_len}
use mathlib.Core.List.{map}
use Rattle.sam_model.specs.declared.program.Term.{Term}
use Rattle.sam_model.specs.declared.program.Program.{Program}
use Rattle.sam_model.specs.Lists.{same_list}
use Rattle.stream_model.specs.declared.labels.Tree.TheVariants.{Product, Reduced}
use Rattle.stream_model.specs.declared.labels.Attr.{Attr}
use Rattle.stream_model.specs.declared.labels.Attr.TheVariants.{Coordinate, Rank, FactorValue, Partial, Whole, Value}
use Rattle.stream_model.specs.declared.labels.Label.{Label}
use Rattle.label_rules.specs.declared.plans.Plan.{Plan}
use Rattle.label_rules.specs.Labels.{no_label, tree_label}
use Rattle.label_rules.specs.Masks.{factors_mask}
use Rattle.label_rules.specs.Plans.{plan_of, asked, left_marks, free_marks}

abbrev pub empty_term : Term
empty_term = record { minus = false; factors = [] }

-- the plan of term number t
abbrev pub plan_at : Program → ℕ → Plan
plan_at p t = plan_of p (eqb t 0) (get_or p.terms t empty_term)

abbrev pub is_term : Program → ℕ → Bool
is_term p t = ltb t (length p.terms)

module _ (p : Program) (t : ℕ) where
  abbrev pub loop_count : ℕ
  loop_count = length (plan_at p t).on_left

  abbrev pub factor_count : ℕ
  factor_count = length (plan_at p t).accesses

  -- how many of its loops aren't on the left
  abbrev pub free_loop_count : ℕ
  free_loop_count = free_marks (plan_at p t).on_left

  -- the product of the literals, 1 where there is none
  abbrev pub plan_coefficient : ℕ
  plan_coefficient = elim (plan_at p t).coefficient as (λ _. ℕ) [ None ↦ 1 | Some k ↦ k ]

  -- ---- its product trees

  -- the mask of the accesses that have the loop after d others
  abbrev pub full_mask : ℕ → ℕ
  full_mask d = factors_mask (asked (plan_at p t) d)

  abbrev pub product_label : ℕ → ℕ → Attr → Label
  product_label level mask attr = tree_label (Product t level mask) attr

  -- a factor's references below d loops
  abbrev pub reference_label : ℕ → ℕ → Label
  reference_label zero f = no_label
  reference_label (suc d) f = product_label (suc d) (full_mask d) (Rank f)

  -- below all loops
  abbrev pub bottom_label : Attr → Label
  bottom_label attr = product_label loop_count (full_mask (loop_count - 1)) attr

  -- the coordinates of a mask with the references of these factors
  abbrev pub met_labels : ℕ → ℕ → List ℕ → List Label
  met_labels level mask fs = product_label level mask Coordinate ∷ map (λ f. product_label level mask (Rank f)) fs

  -- the labels that the product of k factors may have
  abbrev pub partial_labels : ℕ → List Label
  partial_labels k = bottom_label (Partial k) ∷ cond (eqb k 1) (bottom_label (FactorValue 0) ∷ []) []

  -- ---- its reduced trees

  -- the numbers of the loops that are kept where g loops are gone
  abbrev pub kept_from : ℕ → ℕ → List Bool → List ℕ
  kept_from g n [] = []
  kept_from g n (b ∷ marks) = cond (b || leb g (free_marks marks)) (n ∷ kept_from g (suc n) marks) (kept_from g (suc n) marks)

  abbrev pub kept_numbers : ℕ → List ℕ
  kept_numbers g = kept_from g 0 (plan_at p t).on_left

  -- the first d loops that are kept are the same where g and where h loops are gone
  abbrev pub same_kept : ℕ → ℕ → ℕ → Bool
  same_kept d g h = same_list (take d (kept_numbers g)) (take d (kept_numbers h))

  abbrev pub reduced_label : ℕ → ℕ → ℕ → Attr → Label
  reduced_label g prune d attr = tree_label (Reduced t g prune d) attr

  -- The labels that the coordinates of level d may have where g loops are gone: a level that stays while a loop is taken away
  -- may be told of the tree before.
  abbrev pub coordinate_labels : ℕ → ℕ → List Label
  coordinate_labels g d =
      map (λ h. reduced_label h 9 d Coordinate) (filter (same_kept d g) (range_with_len 1 g))
      ++ cond (same_kept d g 0) (product_label d (full_mask (d - 1)) Coordinate ∷ []) []

  -- and the values: where no loop is gone they are the products, and where the coefficient is 1 those without it
  abbrev pub value_labels : ℕ → List Label
  value_labels zero = bottom_label Whole ∷ cond (eqb plan_coefficient 1) (partial_labels factor_count) []
  value_labels (suc g) = reduced_label (suc g) 9 (loop_count - suc g) Value ∷ []

-- how many loops on the left follow the next loop that is taken away, where g are gone
abbrev pub left_after : ℕ → List Bool → ℕ
left_after g [] = 0
left_after g (b ∷ marks) = cond (not b && eqb (free_marks marks) g) (left_marks marks) (left_after g marks)
