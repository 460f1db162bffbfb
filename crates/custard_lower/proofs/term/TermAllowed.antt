-- What rules have to allow so that the blocks of a term keep to them, whatever its labels are.
use Rattle.std.specs.Prelude.{◌≡◌, ◌<◌, ◌≤◌, ℕ, zero, suc, ◌+◌, Bool, true, false, cond, List, [], ◌∷◌, ◌++◌, length, Some, None, eqb}
use Rattle.stream_model.specs.declared.labels.Attr.TheVariants.{Coordinate, Rank, FactorValue, Partial, Whole, Value, Literal}
use Rattle.stream_model.specs.declared.labels.Label.{Label}
use Rattle.stream_model.specs.Masks.{levels_before}
use Rattle.graph.specs.declared.graphs.Kind.TheVariants as kind
use Rattle.label_rules.specs.declared.plans.Plan.{Plan}
use Rattle.label_rules.specs.Labels.{no_label, IsOneOf}
use Rattle.label_rules.specs.Plans.{plan_access, has_loop, asked, left_marks, free_marks}
use Rattle.label_rules.specs.Holding.{Rules}
use Rattle.custard_lower.specs.declared.trees.TermTrees.{TermTrees}
use Rattle.custard_lower.specs.declared.trees.PrunedTrees.{PrunedTrees}
use Rattle.custard_lower.specs.Nests.{product_tree_label, head_labels}
use Rattle.custard_lower.specs.Values.{full_label}
use Rattle.custard_lower.specs.Reductions.{reduced_tree_label, pruned_tree_label}

module _ (rules : Rules) (trees : TermTrees) (t : Plan) where
  -- On the level below d loops, where each factor's references have such a label.
  pub record LevelAllowed (reference : ℕ → Label) (d : ℕ) : Type 0 where
    pub scan : (f : ℕ) → f < length t.accesses → has_loop t d f ≡ true
        → rules (kind.Scan (plan_access t f).tensor (suc (levels_before (plan_access t f).has d))) (reference f ∷ [])
        (head_labels trees t (suc d) (f ∷ []))
    pub intersect : (fs : List ℕ) (f : ℕ) → length fs + 1 ≤ length t.accesses
        → rules (kind.Intersect (length fs) 1) (head_labels trees t (suc d) fs ++ head_labels trees t (suc d) (f ∷ []))
        (head_labels trees t (suc d) (fs ++ f ∷ []))
    pub repeat : (f : ℕ) → f < length t.accesses → has_loop t d f ≡ false
        → rules kind.Repeat (product_tree_label trees (suc d) (asked t d) Coordinate ∷ reference f ∷ [])
        (product_tree_label trees (suc d) (asked t d) (Rank f) ∷ [])

  -- ---- values

  -- the labels that the product of k factors may have
  abbrev pub product_labels : ℕ → List Label
  product_labels k = full_label trees t (Partial k) ∷ cond (eqb k 1) (full_label trees t (FactorValue 0) ∷ []) []

  -- Below all loops; the values of the term have one of these labels.
  pub record ValuesAllowed (reference : ℕ → Label) (values : List Label) : Type 0 where
    pub array : (f : ℕ) → f < length t.accesses
        → rules (kind.Array (plan_access t f).tensor) (reference f ∷ []) (full_label trees t (FactorValue f) ∷ [])
    pub product : (k : ℕ) (l : Label) → 0 < k → k < length t.accesses → IsOneOf l (product_labels k)
        → rules kind.Mul (l ∷ full_label trees t (FactorValue k) ∷ []) (full_label trees t (Partial (suc k)) ∷ [])
    pub constant : (c : ℕ) (l : Label) → t.coefficient ≡ Some c → IsOneOf l (product_labels (length t.accesses))
        → rules (kind.Const c) (l ∷ []) (full_label trees t (Literal c) ∷ [])
    pub scaling : (c : ℕ) (l : Label) → t.coefficient ≡ Some c → IsOneOf l (product_labels (length t.accesses))
        → rules kind.Mul (l ∷ full_label trees t (Literal c) ∷ []) (full_label trees t Whole ∷ [])
    pub whole : IsOneOf (full_label trees t Whole) values
    pub unscaled : (l : Label) → t.coefficient ≡ None → IsOneOf l (product_labels (length t.accesses)) → IsOneOf l values

  -- ---- sums

  -- the labels of the coordinates of level d; the root's label is that of level 0
  abbrev pub level_labels : (ℕ → List Label) → ℕ → List Label
  level_labels coordinates zero = no_label ∷ []
  level_labels coordinates (suc d) = coordinates (suc d)

  -- Where a loop that isn't on the left is taken away; the labels that the coordinates of each level and the values may have where
  -- so many such loops are gone.
  pub record SumAllowed (coordinates : ℕ → ℕ → List Label) (values : ℕ → List Label) (before after : List Bool) : Type 0 where
    pub few : left_marks after ≤ 2
    pub stay : (d : ℕ) (l : Label) → d < length before → IsOneOf l (coordinates (free_marks after) (suc d))
        → IsOneOf l (coordinates (suc (free_marks after)) (suc d))
    pub scalar : (l v : Label) → left_marks after ≡ 0 → IsOneOf l (level_labels (coordinates (free_marks after)) (length before))
        → IsOneOf v (values (free_marks after))
        → rules kind.SumScalar (l ∷ v ∷ []) (reduced_tree_label trees (suc (free_marks after)) (length before) Value ∷ [])
    pub vector : (l v : Label) → left_marks after ≡ 1 → IsOneOf l (coordinates (free_marks after) (suc (suc (length before))))
        → IsOneOf v (values (free_marks after))
        → rules kind.SumVector (l ∷ v ∷ [])
        (reduced_tree_label trees (suc (free_marks after)) (suc (length before)) Coordinate
        ∷ reduced_tree_label trees (suc (free_marks after)) (suc (length before)) Value
        ∷ [])
    pub matrix : (k l v : Label) → left_marks after ≡ 2 → IsOneOf k (coordinates (free_marks after) (suc (suc (length before))))
        → IsOneOf l (coordinates (free_marks after) (suc (suc (suc (length before))))) → IsOneOf v (values (free_marks after))
        → rules kind.SumMatrix (k ∷ l ∷ v ∷ [])
        (reduced_tree_label trees (suc (free_marks after)) (suc (length before)) Coordinate
        ∷ reduced_tree_label trees (suc (free_marks after)) (suc (suc (length before))) Coordinate
        ∷ reduced_tree_label trees (suc (free_marks after)) (suc (suc (length before))) Value
        ∷ [])
    pub coordinate : (d : ℕ) → 0 < left_marks after → length before ≤ d
        → IsOneOf (reduced_tree_label trees (suc (free_marks after)) (suc d) Coordinate) (coordinates (suc (free_marks after)) (suc d))
    pub value : (d : ℕ) → d ≡ length before + left_marks after
        → IsOneOf (reduced_tree_label trees (suc (free_marks after)) d Value) (values (suc (free_marks after)))

  -- and each of them
  abbrev pub SumsAllowed : (ℕ → ℕ → List Label) → (ℕ → List Label) → Type 0
  SumsAllowed coordinates values =
      (before after : List Bool) → t.on_left ≡ before ++ false ∷ after → SumAllowed coordinates values before after

-- Where what has no value is left out of so many levels.
pub record DropsAllowed (rules : Rules) (trees : PrunedTrees) (levels : ℕ) (coordinates : ℕ → List Label) (values : List Label) : Type 0 where
  pub value : (l v : Label) → 0 < levels → IsOneOf l (coordinates levels) → IsOneOf v values
      → rules kind.DropValue (l ∷ v ∷ [])
      (pruned_tree_label trees levels levels Coordinate ∷ pruned_tree_label trees levels levels Value ∷ [])
  pub fiber : (f : ℕ) (l : Label) → 0 < f → f < levels → IsOneOf l (coordinates f)
      → rules kind.DropFiber (l ∷ pruned_tree_label trees (suc f) (suc f) Coordinate ∷ [])
      (pruned_tree_label trees f f Coordinate ∷ pruned_tree_label trees f (suc f) Coordinate ∷ [])
